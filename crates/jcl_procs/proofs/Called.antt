-- A statement that a procedure brings, and the step that it changes.
use Rattle.std.proofs.Common.{◌≡◌, ℕ, ◌+◌, ◌-◌, ◌<◌, suc, zero, Bool, true, false, cond, not, ◌&&◌, ◌||◌, nat_eq, List, [], ◌∷◌, ◌++◌}
use Rattle.std.proofs.Common.{codes, drop, length, map, is_some, slice_set, slice_index_or, Option, Some, None, Result, Ok, Err, refl, sym, ap, ◌∙◌, subst, arith}
use Rattle.std.proofs.Math.Dec.{eqb-suc-zero}
use Rattle.std.proofs.Math.Seq.{drop-cons}
use Rattle.std.specs.List.{slice_get}
use Rattle.std.specs.Str.{bytes_eq}
use Rattle.card_core.specs.declared.statement.Statement.{Statement}
use Rattle.jcl_plan.specs.declared.fault.Cause.{Cause}
use Rattle.jcl_plan.specs.declared.fault.Cause.TheVariants.{P}
use Rattle.jcl_plan.specs.declared.fault.StatementFault.TheVariants.{CardsInProcedure, NoSuchProcedureStep}
use Rattle.operand_core.specs.Faults.{earlier, long_faults, or_fault, told, when}
use Rattle.operand_core.specs.Keywords.{is_long}
use Rattle.operand_core.specs.Operands.{first_of, operand_of}
use Rattle.operand_core.specs.Qualified.{head_of, is_qualified}
use Rattle.operand_core.proofs.Told.{told_append, told-none}
use Rattle.value_core.specs.declared.refusal.ReadError.{ReadError}
use Rattle.value_core.specs.declared.refusal.ReadError.TheVariants.{Refused, Memory}
use Rattle.value_core.specs.Reads.{Gives, Read, and_faults, answer, with_fault}
use Rattle.value_core.proofs.Both.{with_fault_is}
use Rattle.jcl_dds.specs.declared.dd.DdCard.{DdCard}
use Rattle.jcl_dds.specs.declared.dd.Word.{Word}
use Rattle.jcl_dds.specs.declared.dd.Word.TheVariants.{Cards, Dummy}
use Rattle.jcl_dds.specs.DdCards.{dd_card, dd_name_faults, dd_with, has_data, word_of}
use Rattle.jcl_dds.specs.Dds.{is_data_word}
use Rattle.jcl_dds.specs.Merging.{by_itself}
use Rattle.jcl_deck.specs.Decks.{dd_place_faults, last_has_dd}
use Rattle.jcl_deck.specs.Places.{earliest}
use Rattle.jcl_procs.specs.declared.calls.Place as code
use Rattle.jcl_procs.specs.declared.step.FlatStep.{FlatStep}
use Rattle.jcl_procs.specs.Calls.{Call, Place, dd_faults, onto_last, read_with, steps_behind, steps_from}
use Rattle.jcl_procs.specs.Calling.{Moves, behind, dd_faults_with, or_earliest}

-- the last step
pub one_more : (n : ℕ) → false ≡ nat_eq n 0 → n ≡ suc (n - 1)
one_more zero h = cc
one_more (suc n) h = omega arith

last_by : (steps : List FlatStep) (i : ℕ) (step : FlatStep) → length steps ≡ suc i → slice_get steps i ≡ Some step →
    last_has_dd (map (λ s. s.dds) steps) ≡ not (nat_eq (length step.dds) 0)
last_by [] i step h is = absurd (omega (arith, h))
last_by (x ∷ []) zero step h is = let same : x ≡ step = cc in ap (λ (s : FlatStep). not (nat_eq (length s.dds) 0)) same
last_by (x ∷ []) (suc i) step h is = absurd (omega (arith, h))
last_by (x ∷ y ∷ steps) zero step h is = absurd (omega (arith, h))
last_by (x ∷ y ∷ steps) (suc i) step h is = last_by (y ∷ steps) i step (omega (arith, h)) is

pub some_length : (steps : List FlatStep) (step : FlatStep) → slice_get steps (length steps - 1) ≡ Some step → length steps ≡ suc (length steps - 1)
some_length [] step is = cc
some_length (x ∷ steps) step is = omega arith

pub last_is : (steps : List FlatStep) (step : FlatStep) → slice_get steps (length steps - 1) ≡ Some step →
    last_has_dd (map (λ s. s.dds) steps) ≡ not (nat_eq (length step.dds) 0)
last_is steps step is = last_by steps (length steps - 1) step (some_length steps step is) is

abbrev pub with_dd_behind : DdCard → FlatStep → FlatStep
with_dd_behind dd step = record step { dds = step.dds ++ by_itself dd ∷ [] }

pub onto_last_at : (dd : DdCard) (steps : List FlatStep) (i : ℕ) (step : FlatStep) → length steps ≡ suc i → step ≡ slice_index_or steps i step →
    slice_set steps i (with_dd_behind dd step) ≡ onto_last dd steps
onto_last_at dd [] i step h is = absurd (omega (arith, h))
onto_last_at dd (x ∷ []) zero step h is = ap (λ (s : FlatStep). with_dd_behind dd s ∷ []) is
onto_last_at dd (x ∷ []) (suc i) step h is = absurd (omega (arith, h))
onto_last_at dd (x ∷ y ∷ steps) zero step h is = absurd (omega (arith, h))
onto_last_at dd (x ∷ y ∷ steps) (suc i) step h is = ap (λ others. x ∷ others) (onto_last_at dd (y ∷ steps) i step (omega (arith, h)) is)

-- what was read
pub value_is : {A : Type 0} (f : Option Cause) (value x : A) → or_fault f value ≡ Ok x → x ≡ value
value_is None value x h = cc
value_is (Some f) value x h = cc

-- a card with the faults of its place
pub placed_is : {A : Type 0} (r : Read A) (faults : List Cause) (card result : Result A ReadError) {fault : Option Cause} → fault ≡ told faults →
    Gives card (answer r) → ((given : Result A Cause) → Gives card given → Gives result (with_fault given fault)) →
    Gives result (answer (and_faults r faults))
placed_is {A} r faults card result {fault} is gives had =
    let P : Result A Cause → Type 0 = λ given. Gives result given in
    subst P (with_fault_is r faults {a = answer r} {r = with_fault (answer r) fault} refl is refl) (had (answer r) gives)

-- an operand that was read, and one that was not
text_cases : (name : Option Cause) (operand : Result (List ℕ) Cause) (text : List ℕ) → or_earliest name operand ≡ Ok text → operand ≡ Ok text
text_cases name (Ok other) text h = h
text_cases name (Err fault) text h = cc

read_cases : {A : Type 0} (faults names : List Cause) (value text : List ℕ) (read : List ℕ → Read A) (by_place : A → List Cause) →
    or_fault (told faults) value ≡ Ok text → faults ≡ [] →
    read_with (record { value = value; faults = faults }) names read by_place ≡ and_faults (read text) (by_place (read text).value)
read_cases [] names value text read by_place h none = ap (λ t. and_faults (read t) (by_place (read t).value)) (sym (value_is None value text h))
read_cases (fault ∷ faults) names value text read by_place h none = cc

told_cases : (f : Option Cause) (value text : List ℕ) → or_fault f value ≡ Ok text → f ≡ None
told_cases None value text h = refl
told_cases (Some f) value text h = cc

read_ok : {A : Type 0} (operand : Read (List ℕ)) (names : List Cause) (read : List ℕ → Read A) (by_place : A → List Cause)
    (name : Option Cause) {text : List ℕ} → or_earliest name (answer operand) ≡ Ok text →
    read_with operand names read by_place ≡ and_faults (read text) (by_place (read text).value)
read_ok operand names read by_place name {text} h =
    let is = text_cases name (answer operand) text h in
    read_cases operand.faults names operand.value text read by_place is (told-none operand.faults (told_cases (told operand.faults) operand.value text is))

pub read_whole : {A : Type 0} (operand : Read (List ℕ)) (names : List Cause) (read : List ℕ → Read A) (by_place : A → List Cause)
    (name : Option Cause) {text : List ℕ} (result : Result A ReadError) → or_earliest name (answer operand) ≡ Ok text →
    Gives result (answer (and_faults (read text) (by_place (read text).value))) → Gives result (answer (read_with operand names read by_place))
read_whole {A} operand names read by_place name {text} result h gives =
    let P : Read A → Type 0 = λ r. Gives result (answer r) in
    subst P (sym (read_ok operand names read by_place name h)) gives

earlier_some : (name : Option Cause) (fault : Cause) → earlier name (Some fault) ≡ Some (earliest name fault)
earlier_some None fault = refl
earlier_some (Some other) fault = refl

refused_by : {A : Type 0} (faults names : List Cause) (value : List ℕ) (read : List ℕ → Read A) (by_place : A → List Cause) {fault : Cause} →
    told faults ≡ Some fault → answer (read_with (record { value = value; faults = faults }) names read by_place) ≡ Err (earliest (told names) fault)
refused_by [] names value read by_place h = cc
refused_by {A} (own ∷ faults) names value read by_place {fault} h =
    ap (λ none. answer (let r : Read A = cond none (and_faults (read value) (by_place (read value).value))
    (record { value = (read value).value; faults = names ++ own ∷ faults }) in r)) (eqb-suc-zero (length faults))
    ∙ ap (λ f. let r : Result A Cause = or_fault f (read value).value in r)
    (told_append names (own ∷ faults) ∙ ap (earlier (told names)) h ∙ earlier_some (told names) fault)

fault_cases : (f name : Option Cause) (value : List ℕ) (e : Cause) → or_earliest name (or_fault f value) ≡ Err e →
    (fault : Cause) × (f ≡ Some fault) × (e ≡ earliest name fault)
fault_cases None name value e h = cc
fault_cases (Some fault) name value e h = (fault, refl, cc)

unread : {A : Type 0} (operand : Read (List ℕ)) (names : List Cause) (read : List ℕ → Read A) (by_place : A → List Cause) {name : Option Cause}
    (e : ReadError) → name ≡ told names → Gives (let r : Result (List ℕ) ReadError = Err e in r) (or_earliest name (answer operand)) →
    Gives (let r : Result A ReadError = Err e in r) (answer (read_with operand names read by_place))
unread operand names read by_place Memory is gives = tt
unread {A} operand names read by_place {name} (Refused e) is gives =
    let found = fault_cases (told operand.faults) name operand.value e gives in
    refused_by operand.faults names operand.value read by_place found.1
    ∙ ap (λ n. let r : Result A Cause = Err (earliest n found.0) in r) (sym is)
    ∙ ap (λ f. let r : Result A Cause = Err f in r) (sym found.2)

pub read_refused : {A : Type 0} (operand : Read (List ℕ)) (names : List Cause) (read : List ℕ → Read A) (by_place : A → List Cause)
    (name : Option Cause) (text : Result (List ℕ) ReadError) (result : Result A ReadError) {e : ReadError} → name ≡ told names →
    Gives text (or_earliest name (answer operand)) → text ≡ Err e → (d : ReadError) × (result ≡ Err d) × (d ≡ e) →
    Gives result (answer (read_with operand names read by_place))
read_refused {A} operand names read by_place name text result {e} is gives was exit =
    let P : Result (List ℕ) ReadError → Type 0 = λ t. Gives t (or_earliest name (answer operand)) in
    let Q : Result A ReadError → Type 0 = λ r. Gives r (answer (read_with operand names read by_place)) in
    subst Q (sym (exit.1 ∙ ap (λ d. let r : Result A ReadError = Err d in r) exit.2))
    (unread operand names read by_place e is (subst P was gives))

-- the value that was read
pub read_value : {A : Type 0} (r : Read A) {card : Result A ReadError} {x : A} → card ≡ Ok x → Gives card (answer r) → x ≡ r.value
read_value {A} r {card} {x} is gives =
    let P : Result A ReadError → Type 0 = λ c. Gives c (answer r) in
    value_is (told r.faults) r.value x (subst P is gives)

pub ok_next : {A B : Type 0} (f : Option Cause) (value x : A) (next : A → B) → or_fault f value ≡ Ok x → or_fault f (next value) ≡ Ok (next x)
ok_next None value x next h = cc
ok_next (Some fault) value x next h = cc

-- data behind a DD, by its operand
abbrev data_there : Option Word → Bool
data_there None = false
data_there (Some (Cards cards)) = true
data_there (Some Dummy) = false

data_cases : (star data_word dummy : Bool) (cards : List (List ℕ)) →
    data_there (cond dummy (Some Dummy) (cond (star || (data_word || (dummy || false))) (Some (Cards cards)) None)) ≡
    ((star || (data_word || (dummy || false))) && not dummy)
data_cases true data_word true cards = refl
data_cases true data_word false cards = refl
data_cases false true true cards = refl
data_cases false true false cards = refl
data_cases false false true cards = refl
data_cases false false false cards = refl

data_same : (first : Option (List ℕ)) (cards : Option (List (List ℕ))) → data_there (word_of first cards) ≡ is_data_word first
data_same None cards = refl
data_same (Some text) cards = data_cases (bytes_eq text (codes "*")) (bytes_eq text (codes "DATA")) (bytes_eq text (codes "DUMMY")) _

long_same : {A : Type 0} (long : Bool) (names : List Cause) (r : Read A) →
    (let read : Read A = cond long (record { value = r.value; faults = long_faults names }) r in read.value) ≡ r.value
long_same true names r = refl
long_same false names r = refl

pub data_is : (name operand : List ℕ) (cards : Option (List (List ℕ))) →
    has_data (dd_card name operand cards).value ≡ is_data_word (first_of (operand_of 1 operand).positional)
data_is name operand cards =
    ap has_data (long_same (is_long operand) (dd_name_faults name) (dd_with name (operand_of 1 operand) cards))
    ∙ data_same (first_of (operand_of 1 operand).positional) cards

-- the faults of a DD by its place and its name: a qualifier is read from the name alone
some_if : (b : Bool) (head : List ℕ) → is_some (let name : Option (List ℕ) = cond b (Some head) None in name) ≡ b
some_if true head = refl
some_if false head = refl

pub dd_faults_are : (place : Place) (s : Statement) (operand : List ℕ) →
    let dd = (dd_card s.name operand s.cards).value in told (dd_faults_with (has_data dd) place s) ≡ told (dd_faults place s dd)
dd_faults_are place s operand =
    let dd = (dd_card s.name operand s.cards).value in
    let front = when (has_data dd) (P CardsInProcedure) ++ dd_place_faults place.job_library (map (λ step. step.dds) place.steps) s in
    ap (λ qualified. told (front ++ when qualified (P NoSuchProcedureStep)))
    (sym (ap (λ (card : DdCard). is_some card.qualifier)
    (long_same (is_long operand) (dd_name_faults s.name) (dd_with s.name (operand_of 1 operand) s.cards))
    ∙ some_if (is_qualified s.name) (head_of s.name)))

-- one statement after another
steps_more : (call : Call) (place : Place) (s : Statement) (rest : List Statement) {moved : Result Place Cause} → behind call place s ≡ moved →
    steps_from call place (s ∷ rest) ≡ steps_behind moved (λ next. steps_from call next rest)
steps_more call place s rest is = ap (λ r. steps_behind r (λ next. steps_from call next rest)) is

pub steps_step : (call : Call) (place : Place) (s : Statement) (rest : List Statement) {statements : List Statement} {next : Place}
    {steps : Result (List FlatStep) Cause} → steps ≡ steps_from call place statements → statements ≡ s ∷ rest → behind call place s ≡ Ok next →
    steps ≡ steps_from call next rest
steps_step call place s rest is split moved = is ∙ ap (steps_from call place) split ∙ steps_more call place s rest moved

gives_by : (e : ReadError) (moved : Result Place Cause) (steps : Result (List FlatStep) Cause) (place : code.Place) →
    ((fault : Cause) → moved ≡ Err fault → steps ≡ Err fault) → Moves (Err e) place moved →
    Gives (let r : Result (List FlatStep) ReadError = Err e in r) steps
gives_by (Refused fault) moved steps place f h = f fault h
gives_by Memory moved steps place f h = tt

pub steps_refused : (call : Call) (place : Place) (s : Statement) (rest : List Statement) (new : code.Place) {statements : List Statement}
    {steps : Result (List FlatStep) Cause} {taken : Result (Unit {0}) ReadError} {e : ReadError} {result : Result (List FlatStep) ReadError} →
    steps ≡ steps_from call place statements → statements ≡ s ∷ rest → Moves taken new (behind call place s) → taken ≡ Err e →
    (d : ReadError) × (result ≡ Err d) × (d ≡ e) → Gives result steps
steps_refused call place s rest new {statements} {steps} {taken} {e} {result} is split moves was exit =
    let P : Result (Unit {0}) ReadError → Type 0 = λ r. Moves r new (behind call place s) in
    let Q : Result (List FlatStep) ReadError → Type 0 = λ r. Gives r steps in
    subst Q (sym (exit.1 ∙ ap (λ d. let a : Result (List FlatStep) ReadError = Err d in a) exit.2))
    (gives_by e (behind call place s) steps new (λ f h. is ∙ ap (steps_from call place) split ∙ steps_more call place s rest h) (subst P was moves))

pub end_refused : {steps : Result (List FlatStep) Cause} {result : Result (List FlatStep) ReadError} (fault : Cause) → steps ≡ Err fault →
    (d : ReadError) × (result ≡ Err d) × (d ≡ Refused fault) → Gives result steps
end_refused {steps} {result} fault is exit =
    let Q : Result (List FlatStep) ReadError → Type 0 = λ r. Gives r steps in
    subst Q (sym (exit.1 ∙ ap (λ d. let a : Result (List FlatStep) ReadError = Err d in a) exit.2)) is

-- the statements from one on
pub from_one : (xs : List Statement) (i : ℕ) (x : Statement) → i < length xs → x ≡ slice_index_or xs i x → drop i xs ≡ x ∷ drop (i + 1) xs
from_one xs i x lt is =
    drop-cons xs i x lt
    ∙ ap (λ s. s ∷ drop (suc i) xs) (sym is)
    ∙ ap (λ n. x ∷ drop n xs) (let one : suc i ≡ i + 1 = omega arith in one)
