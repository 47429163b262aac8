use Rattle.mount_core.proofs.KeptMaps.{one_cleared}
use Rattle.mount_core.proofs.lists.drop_place.Goals as goal

pub returns : goal.returns
returns c = one_cleared c.args.lists.now.entries c.remove.new.self.entries c.args.place.now c.remove.ensures.updates.0
