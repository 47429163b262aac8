use Rattle.std.proofs.Common.{◌≡◌, arith, rules}
use Rattle.jcl_meaning.specs.declared.store.SoloSet.{SoloSet}
use Rattle.seen_store.proofs.Places.{one_placed}
use Rattle.seen_store.proofs.sets.sets_by_place.Goals as goal

pub loop-left-preserved : goal.loop-left-preserved
loop-left-preserved c =
    let x : SoloSet = c.index-list-left.result in
    let copied : c.in_ok-clone.field-0 ≡ x.set = search rules in (
      omega arith,
      one_placed c.loop-left.sets.entries c.put_set.new.sets.entries c.args.list.now c.loop-left.left x c.in_ok-clone.field-0 c.loop-left-test.true
          c.loop-left.invariant.0 c.index-list-left.is copied c.loop-left.invariant.1 c.in_ok-put_set.ensures.ok,
    )
