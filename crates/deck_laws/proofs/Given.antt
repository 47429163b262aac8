-- What is given where nothing is refused.
use Rattle.std.proofs.Common.{◌≡◌, Result, Ok, Err, refl}
use Rattle.jcl_plan.specs.declared.fault.Cause.{Cause}
use Rattle.jcl_procs.specs.Expansions.{and_then}

pub and_ok : {A B : Type 0} (r : Result A Cause) (next : A → Result B Cause) (b : B) → and_then r next ≡ Ok b → (a : A) × (r ≡ Ok a) × (next a ≡ Ok b)
and_ok (Err fault) next b is = absurd cc
and_ok (Ok a) next b is = (a, refl, is)

pub same_ok : {A : Type 0} (a b : A) → (let r : Result A Cause = Ok a in r) ≡ Ok b → a ≡ b
same_ok a b is = cc
