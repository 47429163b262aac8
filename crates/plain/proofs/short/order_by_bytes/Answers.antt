use Rattle.std.proofs.Common.{◌<◌, ◌∙◌, arith, length, sym}
use Rattle.plain.proofs.Orders.{alike, differ}
use Rattle.plain.proofs.short.order_by_bytes.Goals as goal

pub returns-then-a-i : goal.returns-then-a-i
returns-then-a-i c =
    let i = c.loop-i.i in
    let in_a : i < length c.args.a.now = omega (arith, c.loop-i-test.true, c.loop-i.invariant.both) in
    let in_b : i < length c.args.b.now = omega (arith, c.loop-i-test.true, c.loop-i.invariant.both) in
    c.cmp.ensures ∙ sym (differ c.args.a.now c.args.b.now i in_a in_b c.loop-i.invariant.equal c.if-a-i.true)

pub returns : goal.returns
returns c =
    c.cmp-2.ensures
    ∙ sym (alike c.args.a.now c.args.b.now (λ j in_a in_b. c.loop-i.invariant.equal j (omega (arith, c.loop-i-test.false, c.loop-i.invariant.both, c.loop-i.invariant.within, in_a, in_b))))
