-- the names of an EXEC statement of which no fault is told
use Rattle.std.proofs.Common.{◌≡◌, ℕ, ◌<◌, Bool, true, false, cond, not, ◌&&◌, ◌||◌, List, [], ◌∷◌, ◌++◌, length, get_or, codes, nat_eq, Option, Some, None, is_some, unwrap_or, refl, sym, ap, ◌∙◌, subst}
use Rattle.std.specs.List.{flat_map, starts_with}
use Rattle.std.specs.Str.{bytes_eq}
use Rattle.std.proofs.lemmas.Bool.{ltb-true}
use Rattle.std.proofs.lemmas.Slice.Eq.{bytes_eq-Decides}
use Rattle.jcl_plan.specs.declared.fault.Cause.{Cause}
use Rattle.jcl_plan.specs.declared.fault.Cause.TheVariants.{P}
use Rattle.jcl_plan.specs.declared.fault.StatementFault.TheVariants.{LeftOut, NotOneProgram, TooManyPositional}
use Rattle.operand_core.specs.Faults.{name_faults, read_name_faults, told, when, written_name_faults}
use Rattle.operand_core.specs.Keywords.{has_key, value_of}
use Rattle.operand_core.specs.Operands.{Keyword, Operand, first_of, is_crowded, operand_of, operand_of_parts, part_faults, parts_of}
use Rattle.operand_core.specs.Qualified.{head_of, is_qualified}
use Rattle.operand_core.specs.Reading.{operand_with}
use Rattle.operand_core.proofs.Faultless.{none_behind, none_in_front}
use Rattle.operand_core.proofs.Keys.{first_has_none, first_is_read, one_has_none, value_is_read}
use Rattle.operand_core.proofs.Told.{told-none}
use Rattle.list_values.specs.declared.condition.Condition.{Condition}
use Rattle.jcl_cards.specs.declared.exec.ExecCard.{ExecCard}
use Rattle.jcl_cards.specs.declared.exec.Runs.{Runs}
use Rattle.jcl_cards.specs.declared.exec.StepCondition.{StepCondition}
use Rattle.jcl_cards.specs.ExecCards.{ExecKeyword, IsLeftOut, IsUnknown, OfCondition, OfForm, OfParm, OfProcedure, OfProgram, OfSymbol, calls, exec_keyword, exec_with, faults_of, has_positional, is_symbol, program_faults, runs_badly, step_faults, step_named}
use Rattle.jcl_cards.specs.Execs.{AreRead, CanRun, HaveNoFault, condition_faults, faults_on, is_form, is_left_out}
use Rattle.jcl_cards.specs.Keywords.{as_it_is, symbol_faults, twice_faults}

-- a symbol's keyword without a fault has the name of a symbol
abbrev is_the_symbol : ExecKeyword → Bool
is_the_symbol OfSymbol = true
is_the_symbol other = false

symbol_cases : (k : Keyword) (word : ExecKeyword) → is_the_symbol word ≡ true → faults_of word k ≡ [] → symbol_faults k.key ≡ []
symbol_cases k OfSymbol is none = none
symbol_cases k OfProgram is none = absurd (cc)
symbol_cases k OfProcedure is none = absurd (cc)
symbol_cases k OfCondition is none = absurd (cc)
symbol_cases k OfParm is none = absurd (cc)
symbol_cases k OfForm is none = absurd (cc)
symbol_cases k IsLeftOut is none = absurd (cc)
symbol_cases k IsUnknown is none = absurd (cc)

pub symbol_is_named : (k : Keyword) → is_symbol k ≡ true → faults_on true k ≡ [] → symbol_faults k.key ≡ []
symbol_is_named k is none = symbol_cases k (exec_keyword true k.key) is none

-- what a keyword is, by what holds of its key
abbrev word_of : Bool → Bool → Bool → Bool → Bool → Bool → Bool → Bool → ExecKeyword
word_of program procedure qualified called left_out conditional parm form =
    cond program OfProgram (cond procedure OfProcedure (cond (qualified && not called) IsUnknown (cond left_out IsLeftOut (cond conditional OfCondition
    (cond parm OfParm (cond form OfForm (cond (qualified || not called) IsUnknown OfSymbol)))))))

-- one that names a step
pub record NamesStep (k : Keyword) : Type 0 where
  pub step : step_faults k.key ≡ []
  pub condition : bytes_eq (head_of k.key) (codes "COND") ≡ true → condition_faults k.value ≡ []

step_cases : (k : Keyword) (program procedure called left_out conditional parm form : Bool) → (program ≡ true → ⊥) → (procedure ≡ true → ⊥) →
    faults_of (word_of program procedure true called left_out conditional parm form) k ≡ [] →
    (step_faults k.key ≡ []) × (conditional ≡ true → condition_faults k.value ≡ [])
step_cases k true procedure called left_out conditional parm form no_program no_procedure none = absurd (no_program refl)
step_cases k false true called left_out conditional parm form no_program no_procedure none = absurd (no_procedure refl)
step_cases k false false false left_out conditional parm form no_program no_procedure none = absurd (cc)
step_cases k false false true true conditional parm form no_program no_procedure none = absurd (cc)
step_cases k false false true false true parm form no_program no_procedure none =
    (none_in_front (step_faults k.key) (condition_faults k.value) none, λ is. none_behind (step_faults k.key) (condition_faults k.value) none)
step_cases k false false true false false true form no_program no_procedure none = (none_in_front (step_faults k.key) _ none, λ is. absurd (cc))
step_cases k false false true false false false true no_program no_procedure none = (none, λ is. absurd (cc))
step_cases k false false true false false false false no_program no_procedure none = absurd (cc)

unqualified : (key word : List ℕ) → is_qualified key ≡ true → is_qualified word ≡ false → bytes_eq key word ≡ true → ⊥
unqualified key word qualified not_qualified is = let same : key ≡ word = (bytes_eq-Decides key word).0 is in let alike = ap is_qualified same in cc

pub names_step : (called : Bool) (k : Keyword) → is_qualified k.key ≡ true → faults_on called k ≡ [] → NamesStep k
names_step called k qualified none =
    let key = k.key in
    let head = head_of key in
    let word : Bool → ExecKeyword = λ q.
    word_of (bytes_eq key (codes "PGM")) (bytes_eq key (codes "PROC")) q called (is_left_out head) (bytes_eq head (codes "COND"))
    (bytes_eq head (codes "PARM")) (is_form head) in
    let both =
    step_cases k (bytes_eq key (codes "PGM")) (bytes_eq key (codes "PROC")) called (is_left_out head) (bytes_eq head (codes "COND"))
    (bytes_eq head (codes "PARM")) (is_form head)
    (unqualified key (codes "PGM") qualified refl) (unqualified key (codes "PROC") qualified refl)
    (ap (λ (q : Bool). faults_of (word q) k) (sym qualified) ∙ none) in
    record { step = both.0; condition = both.1 }

step_name_cases : (qualified : Bool) (faults : List Cause) → qualified ≡ true → cond qualified faults [] ≡ [] → faults ≡ []
step_name_cases true faults is none = none
step_name_cases false faults is none = absurd (cc)

pub step_name : (k : Keyword) → is_qualified k.key ≡ true → NamesStep k → told (name_faults (step_named k.key)) ≡ None
step_name k qualified names = ap told (step_name_cases (is_qualified k.key) (name_faults (step_named k.key)) qualified names.step)

-- each of several
pub one_on : (keywords : List Keyword) (i : ℕ) (k : Keyword) (read : AreRead keywords) → i < length keywords → k ≡ get_or keywords i k → faults_on read.0 k ≡ []
one_on keywords i k read lt is = ap (faults_on read.0) is ∙ one_has_none (faults_on read.0) keywords i k read.1 lt

when_none : (holds : Bool) (fault : Cause) → when holds fault ≡ [] → holds ≡ false
when_none false fault h = refl
when_none true fault h = absurd (cc)

-- the parts of an operand without a fault
pub record IsFaultless (name : List ℕ) (parts : List (List ℕ)) (operand : Operand) : Type 0 where
  pub names : written_name_faults name ≡ []
  pub forms : flat_map part_faults parts ≡ []
  pub runs : runs_badly operand ≡ false
  pub positional : read_name_faults (first_of operand.positional) ≡ []
  pub each : HaveNoFault (calls operand) operand.keywords

pub faultless : (name : List ℕ) (parts : List (List ℕ)) → told (exec_with name (operand_of_parts 1 parts)).faults ≡ None → IsFaultless name parts
    (operand_of_parts 1 parts)
faultless name parts none =
    let operand : Operand = operand_of_parts 1 parts in
    let names : List Cause = written_name_faults name in
    let runs_faults : List Cause = when (runs_badly operand) (P NotOneProgram) in
    let first : List Cause = read_name_faults (first_of operand.positional) in
    let each : List Cause = flat_map (faults_on (calls operand)) operand.keywords in
    let five = none_in_front (names ++ operand.faults ++ runs_faults ++ first ++ each) (twice_faults as_it_is operand.keywords)
    (told-none (exec_with name operand).faults none) in
    let four = none_in_front (names ++ operand.faults ++ runs_faults ++ first) each five in
    let three = none_in_front (names ++ operand.faults ++ runs_faults) first four in
    let two = none_in_front (names ++ operand.faults) runs_faults three in
    record {
      names = none_in_front names operand.faults two;
      forms = none_in_front (flat_map part_faults parts) (when (is_crowded 1 parts) (P TooManyPositional)) (none_behind names operand.faults two);
      runs = when_none (runs_badly operand) (P NotOneProgram) (none_behind (names ++ operand.faults) runs_faults three);
      positional = none_behind (names ++ operand.faults ++ runs_faults) first four;
      each = none_behind (names ++ operand.faults ++ runs_faults ++ first) each five;
    }

read_name : (value : Option (List ℕ)) → is_some value ≡ true → read_name_faults value ≡ [] → told (name_faults (unwrap_or value [])) ≡ None
read_name None some none = absurd (cc)
read_name (Some text) some none = ap told none

program_cases : (refers : Bool) (faults : List Cause) → cond refers (P LeftOut ∷ []) faults ≡ [] → faults ≡ []
program_cases true faults h = absurd (cc)
program_cases false faults h = h

program_name : (value : Option (List ℕ)) → is_some value ≡ true → program_faults value ≡ [] → told (name_faults (unwrap_or value [])) ≡ None
program_name None some none = absurd (cc)
program_name (Some text) some none = ap told (program_cases (starts_with nat_eq text (codes "*.")) (name_faults text) none)

names_program : (program called twice : Bool) → (cond program called (not called) || twice) ≡ false → called ≡ false → program ≡ true
names_program true called twice h is = refl
names_program false true twice h is = absurd (cc)
names_program false false twice h is = absurd (cc)

procedure_name : (positional : Bool) (first coded : Option (List ℕ)) (has : Bool) →
    (positional ≡ true → is_some first ≡ true) → (has ≡ true → is_some coded ≡ true) → read_name_faults first ≡ [] →
    (has ≡ true → read_name_faults coded ≡ []) → (positional || has) ≡ true →
    told (name_faults (cond positional (unwrap_or first []) (unwrap_or coded []))) ≡ None
procedure_name true first coded has first_read coded_read first_none coded_none h = read_name first (first_read refl) first_none
procedure_name false first coded has first_read coded_read first_none coded_none h = read_name coded (coded_read h) (coded_none h)

-- what is run has a name
can_run_parts : (name : List ℕ) (parts : List (List ℕ)) → IsFaultless name parts (operand_of_parts 1 parts) → CanRun (operand_of_parts 1 parts)
can_run_parts name parts good =
    let operand : Operand = operand_of_parts 1 parts in
    let pgm : List ℕ = codes "PGM" in
    let proc : List ℕ = codes "PROC" in
    record {
      program = λ is.
          let has = names_program (has_key pgm operand.keywords) (calls operand) (has_positional operand && has_key proc operand.keywords) good.runs is in
          program_name (value_of pgm operand.keywords) (value_is_read pgm parts good.forms has)
          (first_has_none (faults_on (calls operand)) pgm operand.keywords good.each has);
      procedure = λ is.
          procedure_name (has_positional operand) (first_of operand.positional) (value_of proc operand.keywords) (has_key proc operand.keywords)
          (λ some. first_is_read parts good.forms (ltb-true 0 (length operand.positional) some))
          (value_is_read proc parts good.forms)
          good.positional
          (first_has_none (faults_on (calls operand)) proc operand.keywords good.each)
          is;
      symbols = λ is. subst (λ (b : Bool). HaveNoFault b operand.keywords) is good.each;
    }

pub can_run : (name text : List ℕ) (positional : List (Option (List ℕ))) (keywords : List Keyword) → IsFaultless name (parts_of text) (operand_of 1 text) →
    positional ≡ (operand_of 1 text).positional → keywords ≡ (operand_of 1 text).keywords → CanRun (operand_with positional keywords)
can_run name text positional keywords good p k =
    let operand : Operand = operand_of 1 text in
    let can = can_run_parts name (parts_of text) good in
    let plain : CanRun (operand_with operand.positional operand.keywords) = record { program = can.program; procedure = can.procedure; symbols = can.symbols }
    in
    subst (λ (ks : List Keyword). CanRun (operand_with positional ks)) (sym k)
    (subst (λ (ps : List (Option (List ℕ))). CanRun (operand_with ps operand.keywords)) (sym p) plain)

pub and_first : (a b : Bool) → (a && b) ≡ true → a ≡ true
and_first true b h = refl
and_first false b h = absurd (cc)

pub and_second : (a b : Bool) → (a && b) ≡ true → b ≡ true
and_second true b h = h
and_second false b h = absurd (cc)

-- one card by its parts
pub card_is : {name other_name : Option (List ℕ)} {runs other_runs : Runs} {condition other_condition : Option Condition}
    {steps other_steps : List StepCondition}
    {named other_named : List (List ℕ)} → name ≡ other_name → runs ≡ other_runs → condition ≡ other_condition → steps ≡ other_steps → named ≡ other_named →
    let card : ExecCard = record { name = name; runs = runs; condition = condition; step_conditions = steps; named_steps = named } in
    let other : ExecCard = record {
      name = other_name;
      runs = other_runs;
      condition = other_condition;
      step_conditions = other_steps;
      named_steps =
          other_named;
    } in
    card ≡ other
card_is name_is runs_is condition_is steps_is named_is = cc
