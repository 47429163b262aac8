use Rattle.std.proofs.Common.{Some}
use Rattle.seen_store.proofs.Names.{written}
use Rattle.seen_store.proofs.entries.put_entry.Goals as goal

pub returns-in-Ok-clause-ok : goal.returns-in-Ok-clause-ok
returns-in-Ok-clause-ok c = written c.args.entries.now.entries c.insert.new.self.entries c.args.name.now (Some c.args.entry) c.in-Ok.ensures.updates.0
