use Rattle.std.proofs.Common.{◌∙◌}
use Rattle.cat_core.proofs.catalog.set_at.Goals as goal
use Rattle.cat_core.proofs.Maps.{get_name, one_set}

pub returns-in-Ok-clause-ok : goal.returns-in-Ok-clause-ok
returns-in-Ok-clause-ok c = one_set c.args.entries.now.entries c.insert.new.self.entries c.args.name c.args.entry c.in-Ok.ensures.updates.0

pub returns-clause-memory : goal.returns-clause-memory
returns-clause-memory c = get_name c.args.entries.now.entries c.args.name ∙ c.in-Err.ensures.absent
