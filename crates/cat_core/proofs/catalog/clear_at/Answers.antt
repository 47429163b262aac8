use Rattle.cat_core.proofs.catalog.clear_at.Goals as goal
use Rattle.cat_core.proofs.Maps.{one_cleared}

pub returns : goal.returns
returns c = one_cleared c.args.entries.now.entries c.remove.new.self.entries c.args.name.now c.remove.ensures.updates.0
