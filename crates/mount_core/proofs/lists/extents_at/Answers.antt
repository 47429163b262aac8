use Rattle.std.proofs.Common.{Some, ap, sym, ◌∙◌}
use Rattle.mount_core.proofs.KeptMaps.{get_place}
use Rattle.mount_core.proofs.lists.extents_at.Goals as goal

pub returns-in-Some : goal.returns-in-Some
returns-in-Some c = ap Some (c.copy_of.ensures ∙ c.list.view_is) ∙ c.in-Some.ensures.value ∙ sym (get_place c.args.lists.now.entries c.args.place.now)

pub returns-in-None : goal.returns-in-None
returns-in-None c = c.in-None.ensures.value ∙ sym (get_place c.args.lists.now.entries c.args.place.now)
