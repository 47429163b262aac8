use Rattle.std.proofs.Common.{Some}
use Rattle.seen_store.proofs.Places.{written}
use Rattle.seen_store.proofs.sets.put_set.Goals as goal

pub returns-in-Ok-clause-ok : goal.returns-in-Ok-clause-ok
returns-in-Ok-clause-ok c =
    written c.args.sets.now.entries c.insert.new.self.entries (record { key = c.args.key.now; serial = c.args.serial }) (Some c.args.set) c.in-Ok.ensures.updates.0
