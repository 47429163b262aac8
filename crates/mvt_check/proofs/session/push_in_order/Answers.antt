use Rattle.std.proofs.Common.{◌≡◌, ◌++◌, ◌∙◌, All, ap, subst, take_all}
use Rattle.std.proofs.lemmas.Result.{on_ok_weaker}
use Rattle.check_core.specs.Warnings.{warnings_text}
use Rattle.mvt_check.specs.Cards.{HasAside}
use Rattle.mvt_check.proofs.Among.{all_more, all_on}
use Rattle.mvt_check.proofs.session.push_in_order.Goals as goal

pub loop-aside-preserved : goal.loop-aside-preserved
loop-aside-preserved c =
    all_on c.args.asides.now c.loop-aside.aside-index c.aside-item.result c.loop-aside.text.items
    (warnings_text c.args.first c.split_at.result.0.now) c.push_warned.new.text.items c.extend_from_slice.new.self.items
    c.loop-aside-test.true c.aside-item.is c.in_ok-push_warned.ensures
    (c.in_ok-extend_from_slice.ensures.items ∙ ap (λ t. c.push_warned.new.text.items ++ t) c.as_slice.ensures.value)
    c.loop-aside.invariant

pub returns : goal.returns
returns c =
    let asides = c.args.asides.now in
    let text = c.loop-aside.text.items in
    let whole : All (HasAside text) asides = subst (All (HasAside text)) (take_all c.loop-aside.aside-index asides c.loop-aside-test.false) c.loop-aside.invariant in
    on_ok_weaker c.push_warned-2.result
    (λ (e : c.push_warned-2.new.text.items ≡ text ++ warnings_text c.args.first c.loop-aside.left.now).
    all_more asides text (warnings_text c.args.first c.loop-aside.left.now) c.push_warned-2.new.text.items e whole)
    c.push_warned-2.ensures
