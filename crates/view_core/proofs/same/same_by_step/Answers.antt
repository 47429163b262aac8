use Rattle.std.proofs.Common.{◌≡◌, ◌∷◌, true, false, take, length, sym, ◌∙◌, rules}
use Rattle.view_core.specs.Same.{same_bits, same_by_step}
use Rattle.view_core.proofs.SameViews.{ends_false, goes_on}
use Rattle.view_core.proofs.same.same_by_step.Goals as goal

pub returns-then-not-same_bits : goal.returns-then-not-same_bits
returns-then-not-same_bits c =
    let s = c.in-Some.step.now in
    let e : c.loop-step.rest.now ≡ s ∷ c.in-Some.tail.now = search rules in
    let h : same_bits (take (length s.tests.items) c.loop-step.a.now) (take (length s.tests.items) c.loop-step.b.now) ≡ false = cc in
    sym (ends_false c.loop-step.rest.now s c.in-Some.tail.now c.loop-step.a.now c.loop-step.b.now e h) ∙ c.loop-step.invariant

pub loop-step-preserved : goal.loop-step-preserved
loop-step-preserved c =
    let s = c.in-Some.step.now in
    let e : c.loop-step.rest.now ≡ s ∷ c.in-Some.tail.now = search rules in
    let h : same_bits (take (length s.tests.items) c.loop-step.a.now) (take (length s.tests.items) c.loop-step.b.now) ≡ true = cc in
    let on : same_by_step c.in-Some.tail.now c.drop_first-a.result.now c.drop_first-b.result.now
    ≡ same_by_step c.loop-step.rest.now c.loop-step.a.now c.loop-step.b.now =
    let turn = goes_on c.loop-step.rest.now s c.in-Some.tail.now c.loop-step.a.now c.loop-step.b.now e h in cc in
    on ∙ c.loop-step.invariant
