use Rattle.vtoc_core.proofs.MapLemmas.{one_set}
use Rattle.vtoc_core.proofs.contents.enter.Goals as goal

pub returns-in-Ok-clause-ok : goal.returns-in-Ok-clause-ok
returns-in-Ok-clause-ok c = one_set c.args.sets.now.entries c.insert.new.self.entries c.args.key c.args.entry c.in-Ok.ensures.updates.0
