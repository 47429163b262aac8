use Rattle.std.proofs.Common.{◌≡◌, List, ap, sym, subst, refl, ◌∙◌}
use Rattle.std.specs.FinMap.{remove}
use Rattle.extent_core.specs.declared.extent.Extent.{Extent}
use Rattle.vtoc_core.specs.declared.volume.Track.TheVariants.{Free, InSet}
use Rattle.vtoc_core.specs.Entries.{sets_of}
use Rattle.vtoc_core.specs.Volumes.{AreOf, VolumeState, marked}
use Rattle.vtoc_core.proofs.SoundLemmas.{set_tracks, sound_as, sound_scratched}
use Rattle.vtoc_core.proofs.volume.Volume.scratch.Goals as goal

pub set_free-requires-clause-kinds : goal.set_free-requires-clause-kinds
set_free-requires-clause-kinds c =
    let v : VolumeState = record { tracks = c.self.inside.tracks; sets = sets_of c.self.inside.sets.entries } in
    subst (λ (fs : List Extent). AreOf InSet v.tracks fs) (sym c.as_slice.ensures.value)
    (set_tracks v c.args.key.now c.in-Some.entry (sym c.in-Some.ensures.set) c.self.invariant)

pub invariant_of-self : goal.invariant_of-self
invariant_of-self c =
    let v : VolumeState = record { tracks = c.self.inside.tracks; sets = sets_of c.self.inside.sets.entries } in
    let es = c.in-Some.entry.extents.items in
    let new : c.set_free.new.self ≡ marked Free es v.tracks = c.set_free.ensures.tracks ∙ ap (λ fs. marked Free fs v.tracks) c.as_slice.ensures.value in
    sound_as (marked Free es v.tracks) c.set_free.new.self (remove v.sets c.args.key.now) (sets_of c.take_out.new.sets.entries) new c.take_out.ensures.others
    (sound_scratched v c.args.key.now c.in-Some.entry (sym c.in-Some.ensures.set) c.self.invariant)

pub invariant_of-self-in-None : goal.invariant_of-self-in-None
invariant_of-self-in-None c =
    let v : VolumeState = record { tracks = c.self.inside.tracks; sets = sets_of c.self.inside.sets.entries } in
    sound_as v.tracks v.tracks v.sets (sets_of c.take_out.new.sets.entries) refl c.in-None.ensures.missing c.self.invariant
