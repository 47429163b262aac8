-- keywords that are symbols, of which no fault is told
use Rattle.std.proofs.Common.{◌≡◌, ℕ, ◌==◌, Bool, true, false, cond, List, [], ◌∷◌, length, None, refl, ap}
use Rattle.jcl_plan.specs.declared.fault.Cause.{Cause}
use Rattle.jcl_plan.specs.declared.fault.Cause.TheVariants.{P}
use Rattle.jcl_plan.specs.declared.fault.StatementFault.TheVariants.{MissingName}
use Rattle.operand_core.specs.Faults.{name_faults, told, written_name_faults}
use Rattle.operand_core.proofs.Told.{told-none}
use Rattle.jcl_cards.specs.ProcedureCards.{procedure_name_faults}

name_cases : (empty in_stream : Bool) (names : List Cause) → cond empty (cond in_stream (P MissingName ∷ []) []) names ≡ [] → cond empty [] names ≡ []
name_cases true in_stream names h = refl
name_cases false in_stream names h = h

-- a name that is there or may be absent
pub written_from_procedure : (in_stream : Bool) (name : List ℕ) → told (procedure_name_faults in_stream name) ≡ None → told (written_name_faults name) ≡ None
written_from_procedure in_stream name none =
    ap told (name_cases (length name == 0) in_stream (name_faults name) (told-none (procedure_name_faults in_stream name) none))
