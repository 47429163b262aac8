use Rattle.std.proofs.Common.{◌≡◌, ◌∙◌, ◌+◌, ◌-◌, ◌/◌, ◌<◌, suc, true, ap, arith, drop, length, slice_index_or, subst, sym}
use Rattle.jcl_meaning.specs.InOrder.{first_of, is_before}
use Rattle.jcl_meaning.proofs.InOrder.{skipped}
use Rattle.jcl_meaning.proofs.in_order.before.Goals as goal

pub loop-low-preserved-then-is_before : goal.loop-low-preserved-then-is_before
loop-low-preserved-then-is_before g c =
    let list = c.args.list.now in
    let f = g.T.OfDd.step_of in
    let h = g.T.OfDd.dd_of in
    let middle = c.loop-low.low + (c.loop-low.high - c.loop-low.low) / 2 in
    let order = c.loop-low.invariant.order in
    let within = c.loop-low.invariant.within in
    let inside : middle < length list = omega (arith, c.loop-low-test.true, order, within) in
    let none = c.index-list-middle.result in
    let stands : is_before (f (slice_index_or list middle none)) (h (slice_index_or list middle none)) c.args.step c.args.dd ≡ true =
    ap (λ m. is_before (f m) (h m) c.args.step c.args.dd) (sym c.index-list-middle.is) ∙ sym c.is_before.ensures ∙ c.if-is_before.true in
    let next : suc middle ≡ middle + 1 = omega arith in
    record {
      order = omega (arith, c.loop-low-test.true, order);
      within = within;
      skipped = subst (λ k. first_of f h (drop k list) c.args.step c.args.dd ≡ first_of f h list c.args.step c.args.dd) next
          (skipped f h list middle c.args.step c.args.dd none c.requires inside stands);
    }
