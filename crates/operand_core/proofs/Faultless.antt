-- what holds of a statement of which no fault is told
use Rattle.std.proofs.Common.{◌≡◌, Bool, true, false, cond, List, [], ◌∷◌, ◌++◌, None, refl, ap}
use Rattle.jcl_plan.specs.declared.fault.Cause.{Cause}
use Rattle.jcl_plan.specs.declared.fault.Cause.TheVariants.{P}
use Rattle.jcl_plan.specs.declared.fault.StatementFault.TheVariants.{OperandTooLong}
use Rattle.operand_core.specs.Faults.{long_faults, told}
use Rattle.operand_core.proofs.Told.{told-none}

pub none_in_front : (faults others : List Cause) → faults ++ others ≡ [] → faults ≡ []
none_in_front [] others h = refl
none_in_front (fault ∷ faults) others h = absurd (cc)

pub none_behind : (faults others : List Cause) → faults ++ others ≡ [] → others ≡ []
none_behind [] others h = h
none_behind (fault ∷ faults) others h = absurd (cc)

-- an operand that is too long is a fault
pub own_from_long : (is_long : Bool) (names own : List Cause) → told (cond is_long (long_faults names) own) ≡ None → told own ≡ None
own_from_long false names own h = h
own_from_long true names own h = absurd (some_behind names (told-none (long_faults names) h))
  where
    some_behind : (names : List Cause) → names ++ P OperandTooLong ∷ [] ≡ [] → ⊥
    some_behind names e = let none : P OperandTooLong ∷ [] ≡ [] = none_behind names (P OperandTooLong ∷ []) e in cc

pub told_none_in_front : (faults others : List Cause) → told (faults ++ others) ≡ None → told faults ≡ None
told_none_in_front faults others h = ap told (none_in_front faults others (told-none (faults ++ others) h))

pub told_none_behind : (faults others : List Cause) → told (faults ++ others) ≡ None → told others ≡ None
told_none_behind faults others h = ap told (none_behind faults others (told-none (faults ++ others) h))
