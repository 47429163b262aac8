-- The place in a deck as it is kept, and what changes it.
use Rattle.std.specs.Prelude.{◌≡◌, ℕ, Bool, not, ◌&&◌, ◌||◌, ◌==◌, true, nat_le, List, [], ◌∷◌, ◌++◌, length, codes, Option, Some, None, Result, Ok, Err, if◌then◌else◌}
use Rattle.std.specs.Str.{bytes_eq}
use Rattle.jcl_plan.specs.declared.fault.Cause.{Cause}
use Rattle.jcl_plan.specs.declared.fault.Cause.TheVariants.{P}
use Rattle.jcl_plan.specs.declared.fault.StatementFault.TheVariants.{DdBeforeExec, NothingToContinue, TooManyProcedures}
use Rattle.operand_core.specs.Faults.{lower, when}
use Rattle.value_core.specs.declared.refusal.ReadError.{ReadError}
use Rattle.value_core.specs.declared.refusal.ReadError.TheVariants.{Refused, Memory}
use Rattle.value_core.specs.Reads.{Gives, with_fault}
use Rattle.jcl_cards.specs.declared.exec.ExecCard.{ExecCard}
use Rattle.jcl_dds.specs.declared.dd.DdCard.{DdCard}
use Rattle.jcl_deck.specs.declared.deck.Procedure.{Procedure}
use Rattle.jcl_deck.specs.declared.place.Place as code
use Rattle.jcl_deck.specs.Decks.{Place, most_procedures, not_first, onto_last}

abbrev pub denoted : code.Place → Place
denoted place = record {
  job = place.job;
  procedures = place.procedures.items;
  is_open = place.is_open;
  job_library = place.job_library;
  steps = place.steps.items;
}

-- the place is changed to the one that is meant, or the fault that is told is answered, or memory is missing
abbrev pub Moves : Result (Unit {0}) ReadError → code.Place → Result Place Cause → Type 0
Moves (Ok done) place moved = moved ≡ Ok (denoted place)
Moves (Err (Refused fault)) place moved = moved ≡ Err fault
Moves (Err Memory) place moved = Unit {0}

-- a card that was read is answered with one more fault, which may be absent
abbrev pub GivesWith : {A : Type 0} → Option Cause → Result A ReadError → Result A ReadError → Type 0
GivesWith {A} fault card result = (given : Result A Cause) → Gives card given → Gives result (with_fault given fault)

-- of two faults, the first of which may be absent, the one that is told
abbrev pub earliest : Option Cause → Cause → Cause
earliest None fault = fault
earliest (Some first) fault = lower first fault

-- why no card was read, with one more fault, which may be absent
abbrev pub error_with : ReadError → Option Cause → ReadError
error_with Memory fault = Memory
error_with (Refused own) None = Refused own
error_with (Refused own) (Some other) = Refused (lower own other)

-- the faults of a DD of this name by its place: whether a JOBLIB stands before the first step, whether no step does, and whether the last has a DD
abbrev pub faults_where : Bool → Bool → Bool → List ℕ → List Cause
faults_where job_library no_step has_dd name =
    if no_step
    then (if bytes_eq name (codes "JOBLIB") || (length name == 0 && job_library) then []
    else P DdBeforeExec ∷ when (length name == 0) (P NothingToContinue))
    else when (length name == 0 && not has_dd) (P NothingToContinue)

abbrev pub with_step : Place → ExecCard → Place
with_step place exec = record place { steps = place.steps ++ record { exec = exec; dds = [] } ∷ [] }

abbrev pub with_procedure : Place → Procedure → Place
with_procedure place procedure = record place { procedures = place.procedures ++ procedure ∷ []; is_open = true }

abbrev pub with_dd : Place → DdCard → Place
with_dd place dd = record place { job_library = place.job_library || length place.steps == 0; steps = onto_last dd place.steps }

abbrev pub procedure_place_faults : Place → List Cause
procedure_place_faults place = not_first place ++ when (nat_le most_procedures (length place.procedures)) (P TooManyProcedures)
