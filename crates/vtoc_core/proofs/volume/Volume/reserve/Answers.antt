use Rattle.std.proofs.Common.{refl}
use Rattle.vtoc_core.specs.declared.volume.Track.TheVariants.{Free, Aside}
use Rattle.vtoc_core.specs.Entries.{sets_of}
use Rattle.vtoc_core.specs.Volumes.{VolumeState, marked}
use Rattle.vtoc_core.proofs.KindLemmas.{aside≢in_set, free≢in_set}
use Rattle.vtoc_core.proofs.SoundLemmas.{sound_as, sound_aside}
use Rattle.vtoc_core.proofs.TableLemmas.{space_held}
use Rattle.vtoc_core.proofs.volume.Volume.reserve.Goals as goal

pub invariant_of-self-2 : goal.invariant_of-self-2
invariant_of-self-2 c =
    let v : VolumeState = record { tracks = c.self.inside.tracks; sets = sets_of c.self.inside.sets.entries } in
    let es = c.in-Some.extents.items in
    let taken = c.in-Some.ensures in
    sound_as (marked Aside es v.tracks) c.take.new.self v.sets v.sets taken.marked refl
    (sound_aside Free Aside v es free≢in_set aside≢in_set taken.free c.self.invariant)

pub returns-clause-list : goal.returns-clause-list
returns-clause-list c =
    let es = c.in-Some.extents.items in
    (space_held Aside c.args.tracks c.self.inside.tracks c.take.new.self es es refl c.in-Some.ensures, c.in-Some.ensures.size)
