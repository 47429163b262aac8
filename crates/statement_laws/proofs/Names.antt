-- Names that may be absent.
use Rattle.std.proofs.Common.{◌≡◌, ℕ, ◌==◌, Bool, true, false, cond, List, [], ◌∷◌, length}
use Rattle.jname_core.proofs.Names.{not_empty}
use Rattle.jcl_plan.specs.declared.fault.Cause.{Cause}
use Rattle.operand_core.specs.Faults.{name_faults, written_name, written_name_faults}
use Rattle.cb_meaning.specs.Writable.{IsName}
use Rattle.statement_laws.proofs.Faultless.{name_is}

otherwise_none : (empty : Bool) (faults : List Cause) → empty ≡ false → cond empty [] faults ≡ [] → faults ≡ []
otherwise_none false faults not none = none
otherwise_none true faults not none = absurd (cc)

pub written_is : (name : List ℕ) → written_name_faults name ≡ [] → IsName (written_name name)
written_is [] none = tt
written_is (c ∷ cs) none = name_is (c ∷ cs) (otherwise_none (length (c ∷ cs) == 0) (name_faults (c ∷ cs)) (not_empty c cs) none)
