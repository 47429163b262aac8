use Rattle.std.proofs.Common.{◌∙◌}
use Rattle.seen_store.proofs.Names.{entry_found}
use Rattle.seen_store.proofs.entries.entry_at.Goals as goal

pub returns : goal.returns
returns c = c.get.ensures.value ∙ entry_found c.args.entries.now.entries c.args.name.now
