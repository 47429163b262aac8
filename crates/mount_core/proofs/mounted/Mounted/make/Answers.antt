use Rattle.std.proofs.Common.{◌≡◌, ◌+◌, Some, OnOk, ap, sym, subst, refl, ◌∙◌}
use Rattle.std.specs.FinMap.{get}
use Rattle.std.specs.Option.{option_map}
use Rattle.vtoc_core.specs.Extents.{tracks_in}
use Rattle.vtoc_core.specs.Volumes.{AreOf, count_of, marked}
use Rattle.vtoc_core.specs.declared.volume.Track.TheVariants.{Aside, InSet}
use Rattle.mount_core.specs.Kept.{AreKept, kept_of}
use Rattle.mount_core.specs.Mounts.{MountedState, WasMade}
use Rattle.mount_core.proofs.Keeping.{list_kept, one_fewer}
use Rattle.mount_core.proofs.Making.{made_free, made_kept}
use Rattle.mount_core.proofs.mounted.Mounted.make.Goals as goal

pub invariant_of-self : goal.invariant_of-self
invariant_of-self c =
    let kept = kept_of c.self.inside.kept.entries in
    made_kept c.args.key c.args.tracks c.args.expires c.make_set.result c.self.inside.volume c.make_set.new.self kept kept
    c.make_set.ensures.ok c.make_set.ensures.counts c.make_set.ensures.err refl c.self.invariant

pub returns-in_default-clause-made : goal.returns-in_default-clause-made
returns-in_default-clause-made c =
    let place = c.args.place.now in
    let kept = kept_of c.self.inside.kept.entries in
    let old : MountedState = record { serial = c.self.inside.serial; volume = c.self.inside.volume; kept = kept } in
    let new : MountedState = record { serial = c.self.inside.serial; volume = c.make_set.new.self; kept = kept } in
    subst (λ (m : MountedState). OnOk c.make_set.result (WasMade (get m.kept place) m place c.args.key c.args.tracks c.args.expires new)) c.self.view_is
    (subst (λ o. OnOk c.make_set.result (WasMade o old place c.args.key c.args.tracks c.args.expires new))
    (sym (sym c.extents_at.ensures ∙ ap (option_map (λ v. v.items)) c.in_default.is))
    (made_free c.args.key c.args.tracks c.args.expires c.make_set.result old place c.make_set.new.self kept
    c.make_set.ensures.ok c.make_set.ensures.counts refl))

pub make_from-requires : goal.make_from-requires
make_from-requires c =
    let tracks = c.self.inside.volume.tracks in
    let kept = kept_of c.self.inside.kept.entries in
    let there : get kept c.args.place.now ≡ Some c.in-Some.extents.items = sym c.extents_at.ensures ∙ ap (option_map (λ v. v.items)) c.in-Some.is in
    subst (AreOf Aside tracks) (sym c.of.ensures) (list_kept tracks kept c.args.place.now c.in-Some.extents.items there c.self.invariant)

pub invariant_of-self-in-Ok : goal.invariant_of-self-in-Ok
invariant_of-self-in-Ok c =
    let tracks = c.self.inside.volume.tracks in
    let kept = kept_of c.self.inside.kept.entries in
    let now = c.make_from.new.self.tracks in
    let list = c.in-Some.extents.items in
    let there : get kept c.args.place.now ≡ Some list = sym c.extents_at.ensures ∙ ap (option_map (λ v. v.items)) c.in-Some.is in
    subst (AreKept now) (sym c.drop_place.ensures)
    (one_fewer tracks kept c.args.place.now InSet list now there
    (ap (λ v. v.tracks) c.in-Ok.ensures.ok ∙ ap (λ l. marked InSet l tracks) c.of.ensures)
    (subst (λ l. count_of Aside now + tracks_in l ≡ count_of Aside tracks) c.of.ensures c.in-Ok.ensures.counts.fewer) c.self.invariant)
