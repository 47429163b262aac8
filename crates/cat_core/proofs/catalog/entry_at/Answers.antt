use Rattle.std.proofs.Common.{sym, ◌∙◌}
use Rattle.cat_core.proofs.Maps.{get_name}
use Rattle.cat_core.proofs.catalog.entry_at.Goals as goal

pub returns : goal.returns
returns c = c.get.ensures.value ∙ sym (get_name c.args.entries.now.entries c.args.name.now)
