use Rattle.std.proofs.Common.{is_some, ap, sym, ◌∙◌}
use Rattle.vtoc_core.proofs.MapLemmas.{get_key}
use Rattle.vtoc_core.proofs.contents.is_there.Goals as goal

pub returns : goal.returns
returns c = c.contains_key.ensures ∙ sym (ap is_some (get_key c.args.sets.now.entries c.args.key.now))
