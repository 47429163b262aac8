-- the values of one keyword that stands several times
use Rattle.std.proofs.Common.{◌≡◌, Option, Some, None, Result, refl, sym, ap, ◌∙◌}
use Rattle.jcl_plan.specs.declared.fault.Cause.{Cause}
use Rattle.operand_core.specs.Faults.{earlier, or_fault, told}
use Rattle.operand_core.proofs.Told.{told_append}
use Rattle.value_core.specs.Reads.{IsRead, Read, answer}
use Rattle.jcl_cards.specs.Keywords as rule
use Rattle.jcl_cards.specs.Reading.{and_later}

later_told : {A : Type 0} (f g : Option Cause) (x y : A) → and_later (or_fault f x) (or_fault g y) ≡ or_fault (earlier f g) x
later_told None None x y = refl
later_told None (Some g) x y = refl
later_told (Some f) None x y = refl
later_told (Some f) (Some g) x y = refl

pub and_later_is : {A : Type 0} (p q : Read A) {a b r : Result A Cause} → IsRead a p → IsRead b q → r ≡ and_later a b → IsRead r (rule.and_later p q)
and_later_is {A} p q {a} {b} {r} a_is b_is is =
    is
    ∙ ap (λ first. and_later first b) a_is
    ∙ ap (and_later (answer p)) b_is
    ∙ later_told (told p.faults) (told q.faults) p.value q.value
    ∙ ap (λ f. let s : Result A Cause = or_fault f p.value in s) (sym (told_append p.faults q.faults))
