-- The statements of a procedure as they are read at a call, and the steps so far as they are kept.
use Rattle.std.specs.Prelude.{◌≡◌, ℕ, Bool, true, false, ◌||◌, ◌==◌, List, [], ◌∷◌, ◌++◌, length, Option, Some, None, map, Result, Ok, Err}
use Rattle.card_core.specs.declared.statement.Statement.{Statement}
use Rattle.jcl_plan.specs.declared.fault.Cause.{Cause}
use Rattle.jcl_plan.specs.declared.fault.Cause.TheVariants.{P}
use Rattle.jcl_plan.specs.declared.fault.StatementFault.TheVariants.{CardsInProcedure, NoSuchProcedureStep, ProcedureCallsProcedure}
use Rattle.operand_core.specs.Faults.{when, written_name_faults}
use Rattle.operand_core.specs.Qualified.{is_qualified}
use Rattle.value_core.specs.declared.refusal.ReadError.{ReadError}
use Rattle.value_core.specs.declared.refusal.ReadError.TheVariants.{Refused, Memory}
use Rattle.value_core.specs.Reads.{Gives, Read, and_faults, answer}
use Rattle.jcl_symbols.specs.Substitutions.{substituted}
use Rattle.jcl_cards.specs.declared.exec.ExecCard.{ExecCard}
use Rattle.jcl_cards.specs.ExecCards.{exec_card}
use Rattle.jcl_dds.specs.declared.dd.DdCard.{DdCard}
use Rattle.jcl_dds.specs.DdCards.{dd_card, dd_name_faults, has_data}
use Rattle.jcl_deck.specs.Decks.{dd_place_faults, operation_of}
use Rattle.jcl_deck.specs.Places.{earliest}
use Rattle.jcl_procs.specs.declared.calls.Caller.{Caller}
use Rattle.jcl_procs.specs.declared.calls.Place as code
use Rattle.jcl_procs.specs.declared.step.FlatStep.{FlatStep}
use Rattle.jcl_procs.specs.Calls.{Call, Place, behind_by, calls, dd_faults, onto_last, read_with}

-- the call, with the symbols of the caller before those of the procedure
abbrev pub call_of : Caller → Call
call_of caller = record { name = caller.name; place = caller.place; symbols = caller.symbols.now ++ caller.own_symbols.now }

abbrev pub denoted : code.Place → Place
denoted place = record { job_library = place.job_library; steps = place.steps.items }

-- the place is changed to the one that is meant, or the fault that is told is answered, or memory is missing
abbrev pub Moves : Result (Unit {0}) ReadError → code.Place → Result Place Cause → Type 0
Moves (Ok done) place moved = moved ≡ Ok (denoted place)
Moves (Err (Refused fault)) place moved = moved ≡ Err fault
Moves (Err Memory) place moved = Unit {0}

-- a text, or of its fault and that of a name the one that is told
abbrev pub or_earliest : Option Cause → Result (List ℕ) Cause → Result (List ℕ) Cause
or_earliest name (Ok text) = Ok text
or_earliest name (Err fault) = Err (earliest name fault)

-- whether a procedure is called by the operand that this card was read from, if it was
abbrev pub TellsCalls : Result ExecCard ReadError → List ℕ → Bool → Type 0
TellsCalls card operand told = (name : List ℕ) → Gives card (answer (exec_card name operand)) → told ≡ calls (exec_card name operand).value

-- whether data stands behind the DD that this card was read from, if it was
abbrev pub TellsData : Result DdCard ReadError → List ℕ → Bool → Type 0
TellsData card operand told =
    (name : List ℕ) (cards : Option (List (List ℕ))) → Gives card (answer (dd_card name operand cards)) → told ≡ has_data (dd_card name operand cards).value

-- an EXEC statement of a procedure by its operand with the values of symbols
abbrev pub exec_placed : List ℕ → List ℕ → Read ExecCard
exec_placed name operand = and_faults (exec_card name operand) (when (calls (exec_card name operand).value) (P ProcedureCallsProcedure))

abbrev pub exec_read : Call → Statement → Read ExecCard
exec_read call s = read_with (substituted call.symbols false s.operand) (written_name_faults s.name) (exec_card s.name)
    (λ card. when (calls card) (P ProcedureCallsProcedure))

-- and a DD, with the faults by its place, where data stands behind it or not, and by its name
abbrev pub dd_faults_with : Bool → Place → Statement → List Cause
dd_faults_with has place s = when has (P CardsInProcedure)
    ++ dd_place_faults place.job_library (map (λ step. step.dds) place.steps) s ++ when (is_qualified s.name) (P NoSuchProcedureStep)

abbrev pub dd_placed : Place → Statement → List ℕ → Read DdCard
dd_placed place s operand = and_faults (dd_card s.name operand s.cards) (dd_faults place s (dd_card s.name operand s.cards).value)

abbrev pub dd_read : Call → Place → Statement → Read DdCard
dd_read call place s = read_with (substituted call.symbols true s.operand) (dd_name_faults s.name) (λ operand. dd_card s.name operand s.cards)
    (dd_faults place s)

-- the place behind a step, and behind a DD
abbrev pub with_step : Place → FlatStep → Place
with_step place step = record place { steps = place.steps ++ step ∷ [] }

abbrev pub with_dd : Place → DdCard → Place
with_dd place dd = record place { job_library = place.job_library || length place.steps == 0; steps = onto_last dd place.steps }

-- the place behind any statement
abbrev pub behind : Call → Place → Statement → Result Place Cause
behind call place s = behind_by (operation_of s.operation) call place s
