use Rattle.vtoc_core.specs.Entries.{sets_of}
use Rattle.vtoc_core.specs.Volumes.{VolumeState}
use Rattle.vtoc_core.proofs.SoundLemmas.{sound_by}
use Rattle.vtoc_core.proofs.volume.Volume.put_records.Goals as goal

pub invariant_of-self : goal.invariant_of-self
invariant_of-self c =
    let v : VolumeState = record { tracks = c.self.inside.tracks; sets = sets_of c.self.inside.sets.entries } in
    sound_by v c.args.key.now (λ _. c.args.records) (sets_of c.put_records.new.sets.entries) c.put_records.ensures.put c.self.invariant
