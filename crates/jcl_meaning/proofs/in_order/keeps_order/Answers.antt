use Rattle.std.proofs.Common.{◌≡◌, ◌∙◌, true, subst, sym}
use Rattle.jcl_meaning.specs.InOrder.{is_before}
use Rattle.jcl_meaning.proofs.InOrder.{pushed_last}
use Rattle.jcl_meaning.proofs.in_order.keeps_order.Goals as goal

pub returns-in-Some : goal.returns-in-Some
returns-in-Some g c before order =
    let f = g.T.OfDd.step_of in
    let h = g.T.OfDd.dd_of in
    let last = c.in-Some.last.now in
    let stands = sym c.is_before.ensures ∙ before in
    pushed_last f h c.args.list.now last c.args.next.now (sym c.in-Some.ensures.value)
    (subst (λ n. is_before (f last) (h last) n (h c.args.next.now) ≡ true) c.spot-step.ensures.step
    (subst (λ d. is_before (f last) (h last) c.spot-step.result.0 d ≡ true) c.spot-step.ensures.dd stands)) order
