use Rattle.std.proofs.Common.{sym, ◌∙◌}
use Rattle.vtoc_core.proofs.MapLemmas.{get_key}
use Rattle.vtoc_core.proofs.contents.find.Goals as goal

pub returns : goal.returns
returns c = c.get.ensures.value ∙ sym (get_key c.args.sets.now.entries c.args.key.now)
