use Rattle.chain_store.proofs.Noted.{one_more_spot}
use Rattle.chain_store.proofs.spots.more_spots.Goals as goal

pub loop-spots-preserved : goal.loop-spots-preserved
loop-spots-preserved c =
    let now = one_more_spot c.args.spots.now.items c.loop-spots.spots.items c.push.new.self.items c.loop-spots.invariant.longer c.loop-spots.invariant.none c.in_ok-push.ensures.items in
    record { longer = now.0; none = now.1 }
