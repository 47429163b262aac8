use Rattle.std.proofs.Common.{None}
use Rattle.seen_store.proofs.Names.{written}
use Rattle.seen_store.proofs.entries.drop_entry.Goals as goal

pub returns : goal.returns
returns c = written c.args.entries.now.entries c.remove.new.self.entries c.args.name.now None c.remove.ensures.updates.0
