use Rattle.std.proofs.Common.{◌-◌, arith, drop, length-drop, length-take, refl, take}
use Rattle.cb_queue.proofs.Uses.{none_in}
use Rattle.chain_store.proofs.Owning.{owns_none_of}
use Rattle.chain_store.proofs.spots.owns_none.Goals as goal

pub returns : goal.returns
returns c none =
    let block = take (c.args.high - c.args.low) (drop c.args.low c.args.owners.now) in
    owns_none_of c.args.owners.now block c.args.job c.args.low c.args.high c.requires.order c.requires.there refl (omega (arith, c.requires.order, c.requires.there, length-take (c.args.high - c.args.low) (drop c.args.low c.args.owners.now), length-drop c.args.low c.args.owners.now))
    (none_in c.contains.result _ _ c.contains.ensures.cases none)
