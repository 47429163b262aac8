use Rattle.std.proofs.Common.{◌≡◌, ◌+◌, Some, ap, sym, subst, ◌∙◌}
use Rattle.std.specs.FinMap.{get}
use Rattle.std.specs.Option.{option_map}
use Rattle.vtoc_core.specs.Volumes.{AreOf, count_of, marked}
use Rattle.vtoc_core.specs.Extents.{tracks_in}
use Rattle.vtoc_core.specs.declared.volume.Track.TheVariants.{Aside, Free}
use Rattle.mount_core.specs.Kept.{AreKept, kept_of}
use Rattle.mount_core.proofs.Keeping.{list_kept, one_fewer}
use Rattle.mount_core.proofs.mounted.Mounted.give_back.Goals as goal

pub give_back-requires : goal.give_back-requires
give_back-requires c =
    let tracks = c.self.inside.volume.tracks in
    let kept = kept_of c.self.inside.kept.entries in
    let there : get kept c.args.place.now ≡ Some c.in-Some.extents.items = sym c.extents_at.ensures ∙ ap (option_map (λ v. v.items)) c.in-Some.is in
    subst (AreOf Aside tracks) (sym c.of.ensures) (list_kept tracks kept c.args.place.now c.in-Some.extents.items there c.self.invariant)

pub invariant_of-self : goal.invariant_of-self
invariant_of-self c =
    let tracks = c.self.inside.volume.tracks in
    let kept = kept_of c.self.inside.kept.entries in
    let now = c.give_back.new.self.tracks in
    let list = c.in-Some.extents.items in
    let there : get kept c.args.place.now ≡ Some list = sym c.extents_at.ensures ∙ ap (option_map (λ v. v.items)) c.in-Some.is in
    subst (AreKept now) (sym c.drop_place.ensures)
    (one_fewer tracks kept c.args.place.now Free list now there
    (ap (λ v. v.tracks) c.give_back.ensures.state ∙ ap (λ l. marked Free l tracks) c.of.ensures)
    (subst (λ l. count_of Aside now + tracks_in l ≡ count_of Aside tracks) c.of.ensures c.give_back.ensures.counts.fewer) c.self.invariant)
