-- The steps that a procedure brings.
use Rattle.std.proofs.Common.{◌≡◌, ℕ, ◌≤◌, Bool, true, false, cond, not, ◌||◌, ◌==◌, List, [], ◌∷◌, ◌++◌, length, map, Option, Some, None, is_some, unwrap_or, Result, Ok, Err, refl, sym, ap, subst, ◌∙◌, arith}
use Rattle.std.specs.Prelude.{All}
use Rattle.std.proofs.Math.Dec.{eqb-suc-zero}
use Rattle.std.proofs.lemmas.List.Elements.{All-head, All-nil, All-push, All-tail}
use Rattle.jname_core.specs.Grammar.{IsName8}
use Rattle.card_core.specs.declared.statement.Statement.{Statement}
use Rattle.jcl_plan.specs.declared.fault.Cause.{Cause}
use Rattle.jcl_plan.specs.declared.fault.Cause.TheVariants.{P}
use Rattle.jcl_plan.specs.declared.fault.StatementFault.TheVariants.{CardsInProcedure, NoStep, NoSuchProcedureStep, ProcedureCallsProcedure}
use Rattle.operand_core.specs.Faults.{or_fault, told, when, written_name_faults}
use Rattle.operand_core.proofs.Faultless.{none_behind, told_none_behind, told_none_in_front}
use Rattle.operand_core.proofs.Told.{told-none}
use Rattle.list_values.specs.declared.condition.Condition.{Condition}
use Rattle.list_values.specs.Conditions.{no_condition}
use Rattle.value_core.specs.Reads.{Read}
use Rattle.jcl_symbols.specs.Substitutions.{substituted}
use Rattle.cb_meaning.specs.Writable.{IsName}
use Rattle.jcl_cards.specs.declared.exec.ExecCard.{ExecCard}
use Rattle.jcl_cards.specs.declared.exec.Runs.{Runs}
use Rattle.jcl_cards.specs.declared.exec.Runs.TheVariants.{Procedure, Program}
use Rattle.jcl_cards.specs.declared.exec.StepCondition.{StepCondition}
use Rattle.jcl_cards.specs.ExecCards.{exec_card}
use Rattle.jcl_dds.specs.declared.dd.DdCard.{DdCard}
use Rattle.jcl_dds.specs.DdCards.{dd_card, dd_name_faults, has_data}
use Rattle.jcl_dds.specs.Merging.{by_itself}
use Rattle.jcl_deck.specs.declared.operation.Operation.{Operation}
use Rattle.jcl_deck.specs.declared.operation.Operation.TheVariants.{IsDd, IsExec, IsJob, IsOther, IsPend, IsProc}
use Rattle.jcl_deck.specs.Decks.{dd_place_faults, has_no_name, operation_of}
use Rattle.jcl_procs.specs.declared.step.FlatStep.{FlatStep}
use Rattle.jcl_procs.specs.Calls.{Call, Place, behind_by, calls, dd_faults, onto_last, program_of, read_with, step_of, steps_behind, steps_from, steps_of, takes_dd, takes_exec}
use Rattle.statement_laws.specs.Ranges.{HasSoundCodes, IsSoundCondition, IsSoundDd, IsSoundExec, IsSoundRuns}
use Rattle.statement_laws.proofs.Codes.{none_fit}
use Rattle.statement_laws.proofs.Dds.{dd_cards_are_sound}
use Rattle.statement_laws.proofs.Execs.{exec_cards_are_sound}
use Rattle.statement_laws.proofs.Faultless.{when_none}
use Rattle.statement_laws.proofs.Merging.{by_itself_is_sound}
use Rattle.deck_laws.specs.Sound.{HoldsCards, IsNamed, IsSoundStep}
use Rattle.deck_laws.proofs.Lasts.{HasFront, all_with_dd, at_last, begins_behind, has_place}
use Rattle.deck_laws.proofs.Taken.{from_or, name_there}

-- an operand with the values of symbols is read, and no fault is told
record IsReadWith {A : Type 0} (operand : Read (List ℕ)) (read : List ℕ → Read A) (by_place : A → List Cause) (r : Read A) : Type 0 where
  own : told (read operand.value).faults ≡ None
  place : told (by_place (read operand.value).value) ≡ None
  is : r.value ≡ (read operand.value).value

either_read : {A : Type 0} (none : Bool) (operand : Read (List ℕ)) (names : List Cause) (read : List ℕ → Read A) (by_place : A → List Cause) →
    (length operand.faults == 0) ≡ none →
    let own = read operand.value in
    let r : Read A = cond none (record { value = own.value; faults = own.faults ++ by_place own.value })
    (record { value = own.value; faults = names ++ operand.faults }) in
    told r.faults ≡ None → IsReadWith operand read by_place r
either_read true operand names read by_place is h =
    let own = read operand.value in
    record { own = told_none_in_front own.faults (by_place own.value) h; place = told_none_behind own.faults (by_place own.value) h; is = refl }
either_read false operand names read by_place is h =
    let none = none_behind names operand.faults (told-none (names ++ operand.faults) h) in
    absurd (let no : true ≡ false = sym (ap (λ (faults : List Cause). length faults == 0) none) ∙ is in cc)

read_is : {A : Type 0} (operand : Read (List ℕ)) (names : List Cause) (read : List ℕ → Read A) (by_place : A → List Cause) →
    told (read_with operand names read by_place).faults ≡ None → IsReadWith operand read by_place (read_with operand names read by_place)
read_is operand names read by_place h = either_read (length operand.faults == 0) operand names read by_place refl h

-- an EXEC, which runs a program
program_is : (name : Option (List ℕ)) (runs : Runs) (condition : Option Condition) (conditions : List StepCondition) (named_steps : List (List ℕ)) →
    IsSoundRuns runs →
    calls (record { name = name; runs = runs; condition = condition; step_conditions = conditions; named_steps = named_steps }) ≡ false →
    IsName8 (program_of runs)
program_is name (Program text) condition conditions named_steps sound is = sound
program_is name (Procedure text symbols) condition conditions named_steps sound is = absurd (let no : true ≡ false = is in cc)

pub codes_of : (condition : Option Condition) → IsSoundCondition condition → HasSoundCodes (unwrap_or condition no_condition)
codes_of None sound = none_fit
codes_of (Some condition) sound = sound

step_is : (call : Call) (card : ExecCard) → IsName call.name → IsSoundExec card → calls card ≡ false → IsSoundStep (step_of call card)
step_is call card name sound is = record {
  name = name;
  procedure_step = sound.name;
  program = program_is card.name card.runs card.condition card.step_conditions card.named_steps sound.runs is;
  codes = codes_of card.condition sound.condition;
  begins_named = tt;
  dds = All-nil IsSoundDd;
}

exec_taken : (call : Call) (place next : Place) (s : Statement) → IsName call.name → All IsSoundStep place.steps → takes_exec call place s ≡ Ok next →
    All IsSoundStep next.steps
exec_taken call place next s name sound is =
    let operand = substituted call.symbols false s.operand in
    let by_place : ExecCard → List Cause = λ card. when (calls card) (P ProcedureCallsProcedure) in
    let r = read_with operand (written_name_faults s.name) (exec_card s.name) by_place in
    let card = (exec_card s.name operand.value).value in
    let found = from_or (told r.faults) (record place { steps = place.steps ++ step_of call r.value ∷ [] }) next is in
    let read = read_is operand (written_name_faults s.name) (exec_card s.name) by_place found.0 in
    let none = when_none (calls card) (P ProcedureCallsProcedure) (told-none (by_place card) read.place) in
    let step = step_is call card name (exec_cards_are_sound s.name operand.value read.own) none in
    subst (λ (p : Place). All IsSoundStep p.steps) (sym found.1)
    (All-push IsSoundStep place.steps (step_of call r.value) sound (subst (λ c. IsSoundStep (step_of call c)) (sym read.is) step))

-- a DD of the last step
abbrev with_dd : DdCard → FlatStep → FlatStep
with_dd dd step = record step { dds = step.dds ++ by_itself dd ∷ [] }

onto_last_is : (dd : DdCard) (steps : List FlatStep) → at_last (with_dd dd) steps ≡ onto_last dd steps
onto_last_is dd [] = refl
onto_last_is dd (step ∷ []) = refl
onto_last_is dd (step ∷ next ∷ steps) = ap (λ left. step ∷ left) (onto_last_is dd (next ∷ steps))

step_with_dd : (no_name : Bool) (dd : DdCard) (step : FlatStep) → IsSoundDd dd → (no_name ≡ false → IsNamed dd.name) → IsSoundStep step →
    HasFront no_name (not (length step.dds == 0)) → IsSoundStep (with_dd dd step)
step_with_dd no_name dd step good named sound front = record {
  name = sound.name;
  procedure_step = sound.procedure_step;
  program = sound.program;
  codes = sound.codes;
  begins_named = begins_behind no_name step.dds (by_itself dd) front sound.begins_named named;
  dds = All-push IsSoundDd step.dds (by_itself dd) sound.dds (by_itself_is_sound dd good);
}

all_with : (s : Statement) (dd : DdCard) (job_library : Bool) (steps : List FlatStep) → IsSoundDd dd → (has_no_name s ≡ false → IsNamed dd.name) →
    told (dd_place_faults job_library (map (λ step. step.dds) steps) s) ≡ None → All IsSoundStep steps → All IsSoundStep (onto_last dd steps)
all_with s dd job_library steps good named none sound =
    let dds : FlatStep → List DdCard = λ step. step.dds in
    subst (All IsSoundStep) (onto_last_is dd steps)
    (all_with_dd IsSoundStep dds (with_dd dd) (has_no_name s) (λ step. step_with_dd (has_no_name s) dd step good named) steps sound
    (has_place job_library (map dds steps) s none))

dd_taken : (call : Call) (place next : Place) (s : Statement) → HoldsCards s → All IsSoundStep place.steps → takes_dd call place s ≡ Ok next →
    All IsSoundStep next.steps
dd_taken call place next s cards sound is =
    let operand = substituted call.symbols true s.operand in
    let card : List ℕ → Read DdCard = λ operand. dd_card s.name operand s.cards in
    let r = read_with operand (dd_name_faults s.name) card (dd_faults place s) in
    let dd = (card operand.value).value in
    let found = from_or (told r.faults)
    (record place { job_library = place.job_library || length place.steps == 0; steps = onto_last r.value place.steps }) next is in
    let read = read_is operand (dd_name_faults s.name) card (dd_faults place s) found.0 in
    let good = dd_cards_are_sound s.name operand.value s.cards cards read.own in
    let with_data = when (has_data dd) (P CardsInProcedure) in
    let there = dd_place_faults place.job_library (map (λ step. step.dds) place.steps) s in
    let none = told_none_behind with_data there (told_none_in_front (with_data ++ there) (when (is_some dd.qualifier) (P NoSuchProcedureStep)) read.place) in
    subst (λ (p : Place). All IsSoundStep p.steps) (sym found.1)
    (subst (λ d. All IsSoundStep (onto_last d place.steps)) (sym read.is)
    (all_with s dd place.job_library place.steps good (name_there s.name operand.value s.cards) none sound))

other_refused : (place next : Place) (fault : Option Cause) → All IsSoundStep place.steps → or_fault fault place ≡ Ok next → All IsSoundStep next.steps
other_refused place next fault sound is = subst (λ (p : Place). All IsSoundStep p.steps) (sym (from_or fault place next is).1) sound

behind_is : (operation : Operation) (call : Call) (place next : Place) (s : Statement) → IsName call.name → HoldsCards s → All IsSoundStep place.steps →
    behind_by operation call place s ≡ Ok next → All IsSoundStep next.steps
behind_is IsExec call place next s name cards sound is = exec_taken call place next s name sound is
behind_is IsDd call place next s name cards sound is = dd_taken call place next s cards sound is
behind_is IsProc call place next s name cards sound is = other_refused place next _ sound is
behind_is IsJob call place next s name cards sound is = other_refused place next _ sound is
behind_is IsPend call place next s name cards sound is = other_refused place next _ sound is
behind_is IsOther call place next s name cards sound is = other_refused place next _ sound is

-- one step or more
abbrev pub AreBrought : List FlatStep → Type 0
AreBrought steps = (1 ≤ length steps) × All IsSoundStep steps

some_steps : (brought steps : List FlatStep) → All IsSoundStep brought →
    (let r : Result (List FlatStep) Cause = cond (length brought == 0) (Err (P NoStep)) (Ok brought) in r) ≡ Ok steps → AreBrought steps
some_steps [] steps sound is = absurd (let no : (let r : Result (List FlatStep) Cause = Err (P NoStep) in r) ≡ Ok steps = is in cc)
some_steps (step ∷ brought) steps sound is =
    let e : (let r : Result (List FlatStep) Cause = Ok (step ∷ brought) in r) ≡ Ok steps =
    sym (ap (λ b. let r : Result (List FlatStep) Cause = cond b (Err (P NoStep)) (Ok (step ∷ brought)) in r) (eqb-suc-zero (length brought))) ∙ is in
    let same : step ∷ brought ≡ steps = cc in
    subst AreBrought same (omega (arith), sound)

steps_next : (moved : Result Place Cause) (next : Place → Result (List FlatStep) Cause) (steps : List FlatStep) →
    ((place : Place) → moved ≡ Ok place → next place ≡ Ok steps → AreBrought steps) → steps_behind moved next ≡ Ok steps → AreBrought steps
steps_next (Err fault) next steps sound is = absurd (cc)
steps_next (Ok place) next steps sound is = sound place refl is

from_place : (call : Call) (place : Place) (statements : List Statement) (steps : List FlatStep) → IsName call.name → All HoldsCards statements →
    All IsSoundStep place.steps → steps_from call place statements ≡ Ok steps → AreBrought steps
from_place call place [] steps name all sound is = some_steps place.steps steps sound is
from_place call place (s ∷ statements) steps name all sound is =
    steps_next (behind_by (operation_of s.operation) call place s) (λ next. steps_from call next statements) steps
    (λ next moved more. from_place call next statements steps name (All-tail HoldsCards s statements all)
    (behind_is (operation_of s.operation) call place next s name (All-head HoldsCards s statements all) sound moved) more) is

pub steps_are : (call : Call) (statements : List Statement) (steps : List FlatStep) → IsName call.name → All HoldsCards statements →
    steps_of call statements ≡ Ok steps → AreBrought steps
steps_are call statements steps name all is =
    from_place call (record { job_library = false; steps = [] }) statements steps name all (All-nil IsSoundStep) is
