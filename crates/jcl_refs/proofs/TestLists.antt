-- Tests that are found one after another.
use Rattle.std.proofs.Common.{List, ◌++◌, Result, Ok, Err}
use Rattle.jcl_plan.specs.declared.fault.Cause.{Cause}

-- those that are found, and those that are left
abbrev pub behind : {A : Type 0} → List A → Result (List A) Cause → Result (List A) Cause
behind found (Err fault) = Err fault
behind found (Ok more) = Ok (found ++ more)
