-- An EXEC of which no fault is told.
use Rattle.std.proofs.Common.{◌≡◌, ℕ, Bool, true, false, List, [], ◌∷◌, codes, map, filter, Option, Some, None, refl, ap}
use Rattle.std.specs.Prelude.{All}
use Rattle.std.specs.List.{flat_map}
use Rattle.std.specs.Str.{bytes_eq}
use Rattle.std.proofs.lemmas.Bool.{cond_both}
use Rattle.std.proofs.lemmas.List.Elements.{All-cons, All-nil}
use Rattle.jname_core.specs.Grammar.{IsName8}
use Rattle.operand_core.specs.Faults.{name_faults, told, written_name_faults}
use Rattle.operand_core.specs.Operands.{Keyword, Operand, operand_of, parts_of}
use Rattle.operand_core.specs.Qualified.{head_of, is_qualified}
use Rattle.operand_core.proofs.Faultless.{none_behind, none_in_front}
use Rattle.operand_core.proofs.Told.{told-none}
use Rattle.jcl_cards.specs.declared.exec.Runs.TheVariants.{Program, Procedure}
use Rattle.jcl_cards.specs.ExecCards.{calls, condition_in, condition_of, exec_with, is_step_condition, procedure_of, runs_of, step_condition, step_named}
use Rattle.jcl_cards.specs.Execs.{HaveNoFault, faults_on, program_of, symbols_of}
use Rattle.jcl_cards.proofs.ExecNames.{IsFaultless, and_first, can_run, faultless, names_step, step_name}
use Rattle.statement_laws.specs.CardLaws.{ExecCardsAreSound}
use Rattle.statement_laws.specs.Ranges.{HasSoundCodes, IsSoundCondition, IsSoundExec, IsSoundRuns, IsSoundStepCondition}
use Rattle.statement_laws.proofs.Codes.{codes_fit, none_fit}
use Rattle.statement_laws.proofs.Faultless.{ReadIs, name_is, told_is}
use Rattle.statement_laws.proofs.Names.{written_is}

-- the program
program_is : (name text : List ℕ) → IsFaultless name (parts_of text) (operand_of 1 text) → calls (operand_of 1 text) ≡ false →
    IsName8 (program_of (operand_of 1 text).keywords)
program_is name text good is =
    let operand : Operand = operand_of 1 text in
    let can = can_run name text operand.positional operand.keywords good refl refl in
    name_is (program_of operand.keywords) (told-none (name_faults (program_of operand.keywords)) (can.program is))

runs_are : (name text : List ℕ) → IsFaultless name (parts_of text) (operand_of 1 text) → IsSoundRuns (runs_of (operand_of 1 text))
runs_are name text good =
    let operand : Operand = operand_of 1 text in
    cond_both (calls operand) (Procedure (procedure_of operand) (symbols_of operand.keywords)) (Program (program_of operand.keywords)) IsSoundRuns
    (λ is. tt) (program_is name text good)

-- COND
value_fits : (value : Option (List ℕ)) → HasSoundCodes (condition_of value).value
value_fits None = none_fit
value_fits (Some text) = codes_fit true text

condition_is : (keywords : List Keyword) → IsSoundCondition (condition_in keywords)
condition_is [] = tt
condition_is (k ∷ keywords) =
    cond_both (bytes_eq k.key (codes "COND")) (Some (condition_of k.value).value) (condition_in keywords) IsSoundCondition
    (λ is. value_fits k.value) (λ is. condition_is keywords)

-- and those of single steps
abbrev AreSteps : List Keyword → Type 0
AreSteps keywords = All IsSoundStepCondition (map step_condition keywords)

step_is : (called : Bool) (k : Keyword) → faults_on called k ≡ [] → is_step_condition k ≡ true → IsSoundStepCondition (step_condition k)
step_is called k none is =
    let qualified = and_first (is_qualified k.key) (bytes_eq (head_of k.key) (codes "COND")) is in
    let told_none = step_name k qualified (names_step called k qualified none) in
    record { step = name_is (step_named k.key) (told-none (name_faults (step_named k.key)) told_none); codes = value_fits k.value }

steps_are : (called : Bool) (keywords : List Keyword) → HaveNoFault called keywords → AreSteps (filter is_step_condition keywords)
steps_are called [] none = All-nil IsSoundStepCondition
steps_are called (k ∷ keywords) none =
    let here = none_in_front (faults_on called k) (flat_map (faults_on called) keywords) none in
    let behind = steps_are called keywords (none_behind (faults_on called k) (flat_map (faults_on called) keywords) none) in
    let others = filter is_step_condition keywords in
    cond_both (is_step_condition k) (k ∷ others) others AreSteps
    (λ is. All-cons IsSoundStepCondition (step_condition k) (map step_condition others) (step_is called k here is) behind)
    (λ is. behind)

exec_is : (name text : List ℕ) → ReadIs IsSoundExec (exec_with name (operand_of 1 text))
exec_is name text none =
    let operand : Operand = operand_of 1 text in
    let good = faultless name (parts_of text) (ap told none) in
    record {
      name = written_is name good.names;
      runs = runs_are name text good;
      condition = condition_is operand.keywords;
      step_conditions = steps_are (calls operand) operand.keywords good.each;
    }

pub exec_cards_are_sound : ExecCardsAreSound
exec_cards_are_sound name operand =
    told_is IsSoundExec (written_name_faults name) operand (exec_with name (operand_of 1 operand)) (exec_is name operand)
