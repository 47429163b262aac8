use Rattle.std.proofs.Common.{◌∙◌}
use Rattle.seen_store.proofs.Places.{set_found}
use Rattle.seen_store.proofs.sets.set_at.Goals as goal

pub returns : goal.returns
returns c = c.get.ensures.value ∙ set_found c.args.sets.now.entries c.args.key.now c.args.serial
