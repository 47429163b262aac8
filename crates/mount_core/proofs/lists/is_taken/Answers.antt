use Rattle.std.proofs.Common.{is_some, ap, sym, ◌∙◌}
use Rattle.mount_core.proofs.KeptMaps.{get_place}
use Rattle.mount_core.proofs.lists.is_taken.Goals as goal

pub returns : goal.returns
returns c = c.contains_key.ensures ∙ sym (ap is_some (get_place c.args.lists.now.entries c.args.place.now))
