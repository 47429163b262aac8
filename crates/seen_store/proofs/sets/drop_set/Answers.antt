use Rattle.std.proofs.Common.{None}
use Rattle.seen_store.proofs.Places.{written}
use Rattle.seen_store.proofs.sets.drop_set.Goals as goal

pub returns : goal.returns
returns c =
    written c.args.sets.now.entries c.remove.new.self.entries (record { key = c.args.key.now; serial = c.args.serial }) None c.remove.ensures.updates.0
