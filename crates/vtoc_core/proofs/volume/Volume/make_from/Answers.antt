use Rattle.std.proofs.Common.{◌≡◌, ap, sym, subst, ◌∙◌}
use Rattle.vtoc_core.specs.declared.entry.SetEntry.{SetEntry}
use Rattle.vtoc_core.specs.declared.volume.Track.TheVariants.{Aside, InSet}
use Rattle.vtoc_core.specs.Entries.{sets_of}
use Rattle.std.specs.FinMap.{insert}
use Rattle.vtoc_core.specs.Volumes.{AreOf, VolumeState, marked}
use Rattle.vtoc_core.proofs.KindLemmas.{aside≢in_set}
use Rattle.vtoc_core.proofs.SoundLemmas.{sound_as, sound_made}
use Rattle.vtoc_core.proofs.volume.Volume.make_from.Goals as goal

pub invariant_of-self : goal.invariant_of-self
invariant_of-self c =
    let v : VolumeState = record { tracks = c.self.inside.tracks; sets = sets_of c.self.inside.sets.entries } in
    let es = c.args.list in
    let same : c.as_slice-in-Ok.result.now ≡ es = cc in
    let new : c.assign.new.self ≡ marked InSet es v.tracks = c.assign.ensures.tracks ∙ ap (λ fs. marked InSet fs v.tracks) same in
    let aside : AreOf Aside v.tracks es = subst (λ (w : VolumeState). AreOf Aside w.tracks es) (sym c.self.view_is) c.requires in
    let e : SetEntry = record { extents = c.extents_of.result; expires = c.args.expires; records = c.new.result } in
    let held : e.extents.items ≡ es = cc in
    sound_as (marked InSet es v.tracks) c.assign.new.self (insert v.sets c.args.key e) (sets_of c.enter.new.sets.entries) new c.in-Ok.ensures.ok
    (sound_made Aside v es c.args.key e aside≢in_set aside held c.in-Ok.ensures.absent c.self.invariant)
