use Rattle.mount_core.proofs.KeptMaps.{one_put}
use Rattle.mount_core.proofs.lists.put.Goals as goal

pub returns-in-Ok-clause-ok : goal.returns-in-Ok-clause-ok
returns-in-Ok-clause-ok c = one_put c.args.lists.now.entries c.insert.new.self.entries c.args.place c.args.extents.items c.in-Ok.ensures.updates.0
