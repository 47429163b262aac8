use Rattle.std.proofs.Common.{slice_set, sym, ap, ◌∙◌}
use Rattle.place_core.specs.Volumes.{back_on}
use Rattle.place_core.proofs.aside.give_back.Goals as goal

pub returns-in-Some : goal.returns-in-Some
returns-in-Some c =
    ap (slice_set c.args.volumes.now c.in-Some.place) c.give_back.ensures
    ∙ sym (c.in-Some.ensures.there.changed (back_on c.args.at.now) c.index-volumes-place.result)
