-- The steps that a procedure brings: its EXEC and DD statements, read with the values of symbols at each call. (GC28-6704, "PROC statement",
-- "Symbolic parameters")
use Rattle.std.specs.Prelude.{ℕ, Bool, true, false, ◌||◌, ◌==◌, List, [], ◌∷◌, ◌++◌, length, map, unwrap_or, Option, Some, is_some, Result, Ok, Err, if◌then◌else◌}
use Rattle.card_core.specs.declared.statement.Statement.{Statement}
use Rattle.jcl_plan.specs.declared.fault.Cause.{Cause}
use Rattle.jcl_plan.specs.declared.fault.Cause.TheVariants.{P}
use Rattle.jcl_plan.specs.declared.fault.StatementFault.TheVariants.{CardsInProcedure, MissingPend, NoStep, NoSuchProcedureStep, NotOneJob, ProcedureCallsProcedure, UnknownOperation}
use Rattle.operand_core.specs.Faults.{or_fault, told, when, written_name_faults}
use Rattle.list_values.specs.Conditions.{no_condition}
use Rattle.value_core.specs.Reads.{Read}
use Rattle.jcl_symbols.specs.declared.symbol.Symbol.{Symbol}
use Rattle.jcl_symbols.specs.Substitutions.{substituted}
use Rattle.jcl_cards.specs.declared.exec.ExecCard.{ExecCard}
use Rattle.jcl_cards.specs.declared.exec.Runs.{Runs}
use Rattle.jcl_cards.specs.declared.exec.Runs.TheVariants.{Program, Procedure}
use Rattle.jcl_cards.specs.ExecCards.{exec_card}
use Rattle.jcl_dds.specs.declared.dd.DdCard.{DdCard}
use Rattle.jcl_dds.specs.DdCards.{dd_card, dd_name_faults, has_data}
use Rattle.jcl_dds.specs.Merging.{by_itself}
use Rattle.jcl_deck.specs.declared.operation.Operation.{Operation}
use Rattle.jcl_deck.specs.declared.operation.Operation.TheVariants.{IsJob, IsExec, IsDd, IsProc, IsPend, IsOther}
use Rattle.jcl_deck.specs.Decks.{dd_place_faults, operation_of}
use Rattle.jcl_procs.specs.declared.step.FlatStep.{FlatStep}

-- what is the same for all steps of a call: the name on the EXEC statement that calls, its place, and the symbols that have values
pub record Call : Type 0 where
  pub name : Option (List ℕ)
  pub place : ℕ
  pub symbols : List Symbol

-- the steps so far, and whether a JOBLIB stands before the first
pub record Place : Type 0 where
  pub job_library : Bool
  pub steps : List FlatStep

-- Where a symbol has no value or the operand is too long it is not read, and of the other faults those of the name are told.
abbrev pub read_with : {A : Type 0} → Read (List ℕ) → List Cause → (List ℕ → Read A) → (A → List Cause) → Read A
read_with operand names read by_place =
    if length operand.faults == 0
    then record { value = (read operand.value).value; faults = (read operand.value).faults ++ by_place (read operand.value).value }
    else record { value = (read operand.value).value; faults = names ++ operand.faults }

abbrev pub calls : ExecCard → Bool
calls card = calls_by card.runs
  where
    calls_by : Runs → Bool
    calls_by (Program name) = false
    calls_by (Procedure name symbols) = true

abbrev pub program_of : Runs → List ℕ
program_of (Program name) = name
program_of (Procedure name symbols) = name

abbrev pub step_of : Call → ExecCard → FlatStep
step_of call card = record {
  name = call.name;
  procedure_step = card.name;
  call = Some call.place;
  program = program_of card.runs;
  condition = unwrap_or card.condition no_condition;
  dds = [];
}

-- a procedure calls none
abbrev pub takes_exec : Call → Place → Statement → Result Place Cause
takes_exec call place s = taken (read_with (substituted call.symbols false s.operand) (written_name_faults s.name) (exec_card s.name)
    (λ card. when (calls card) (P ProcedureCallsProcedure)))
  where
    taken : Read ExecCard → Result Place Cause
    taken r = or_fault (told r.faults) (record place { steps = place.steps ++ step_of call r.value ∷ [] })

-- a DD of a procedure has no cards, and its name is not qualified
abbrev pub dd_faults : Place → Statement → DdCard → List Cause
dd_faults place s dd = when (has_data dd) (P CardsInProcedure) ++ dd_place_faults place.job_library (map (λ step. step.dds) place.steps) s
    ++ when (is_some dd.qualifier) (P NoSuchProcedureStep)

abbrev pub onto_last : DdCard → List FlatStep → List FlatStep
onto_last dd [] = []
onto_last dd (step ∷ []) = record step { dds = step.dds ++ by_itself dd ∷ [] } ∷ []
onto_last dd (step ∷ next ∷ steps) = step ∷ onto_last dd (next ∷ steps)

abbrev pub takes_dd : Call → Place → Statement → Result Place Cause
takes_dd call place s = taken (read_with (substituted call.symbols true s.operand) (dd_name_faults s.name)
    (λ operand. dd_card s.name operand s.cards) (dd_faults place s))
  where
    taken : Read DdCard → Result Place Cause
    taken r = or_fault (told r.faults) (record place { job_library = place.job_library || length place.steps == 0; steps = onto_last r.value place.steps })

-- any other has no place there; its name is read, its operand is not
abbrev pub refuses : Place → Statement → Cause → Result Place Cause
refuses place s fault = or_fault (told (written_name_faults s.name ++ fault ∷ [])) place

abbrev pub behind_by : Operation → Call → Place → Statement → Result Place Cause
behind_by IsExec call place s = takes_exec call place s
behind_by IsDd call place s = takes_dd call place s
behind_by IsProc call place s = refuses place s (P MissingPend)
behind_by IsJob call place s = refuses place s (P NotOneJob)
behind_by IsPend call place s = refuses place s (P UnknownOperation)
behind_by IsOther call place s = refuses place s (P UnknownOperation)

abbrev pub steps_with : Place → Result (List FlatStep) Cause
steps_with place = if length place.steps == 0 then Err (P NoStep) else Ok place.steps

abbrev pub steps_behind : Result Place Cause → (Place → Result (List FlatStep) Cause) → Result (List FlatStep) Cause
steps_behind (Err fault) next = Err fault
steps_behind (Ok place) next = next place

abbrev pub steps_from : Call → Place → List Statement → Result (List FlatStep) Cause
steps_from call place [] = steps_with place
steps_from call place (s ∷ statements) =
    steps_behind (behind_by (operation_of s.operation) call place s) (λ next. steps_from call next statements)

-- the steps that these statements bring at a call, or their first refusal
abbrev pub steps_of : Call → List Statement → Result (List FlatStep) Cause
steps_of call statements = steps_from call (record { job_library = false; steps = [] }) statements
