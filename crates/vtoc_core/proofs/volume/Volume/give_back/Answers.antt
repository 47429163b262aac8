use Rattle.std.proofs.Common.{◌≡◌, ap, sym, subst, refl, ◌∙◌}
use Rattle.vtoc_core.specs.declared.volume.Track.TheVariants.{Free, Aside}
use Rattle.vtoc_core.specs.Entries.{sets_of}
use Rattle.vtoc_core.specs.Volumes.{AreOf, VolumeState, marked}
use Rattle.vtoc_core.proofs.KindLemmas.{aside≢in_set, free≢in_set}
use Rattle.vtoc_core.proofs.SoundLemmas.{sound_as, sound_aside}
use Rattle.vtoc_core.proofs.volume.Volume.give_back.Goals as goal

pub invariant_of-self : goal.invariant_of-self
invariant_of-self c =
    let v : VolumeState = record { tracks = c.self.inside.tracks; sets = sets_of c.self.inside.sets.entries } in
    let es = c.args.list in
    let same : c.as_slice.result.now ≡ es = cc in
    let new : c.set_free.new.self ≡ marked Free es v.tracks = c.set_free.ensures.tracks ∙ ap (λ fs. marked Free fs v.tracks) same in
    let aside : AreOf Aside v.tracks es = subst (λ (w : VolumeState). AreOf Aside w.tracks es) (sym c.self.view_is) c.requires in
    sound_as (marked Free es v.tracks) c.set_free.new.self v.sets v.sets new refl (sound_aside Aside Free v es aside≢in_set free≢in_set aside c.self.invariant)
