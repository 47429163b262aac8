-- an operand that is not too long, read into a card
use Rattle.std.proofs.Common.{◌≡◌, Bool, false, cond, List, Result, sym, subst}
use Rattle.jcl_plan.specs.declared.fault.Cause.{Cause}
use Rattle.operand_core.specs.Faults.{long_faults}
use Rattle.value_core.specs.declared.refusal.ReadError.{ReadError}
use Rattle.value_core.specs.Reads.{Read, answer}
use Rattle.jcl_dds.specs.Beside.{GivesInto}

pub short_put : {A : Type 0} (long : Bool) (names : List Cause) (r : Read A) (result : Result (Unit {0}) ReadError) (value : A) → long ≡ false →
    GivesInto result value (answer r) → GivesInto result value (answer (cond long (record { value = r.value; faults = long_faults names }) r))
short_put {A} long names r result value is gives =
    let whole : Read A = record { value = r.value; faults = long_faults names } in
    let P : Bool → Type 0 = λ b. GivesInto result value (answer (cond b whole r)) in
    subst P (sym is) gives
