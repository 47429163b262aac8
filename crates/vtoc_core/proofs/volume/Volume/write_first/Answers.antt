use Rattle.std.proofs.Common.{◌∷◌, []}
use Rattle.vtoc_core.specs.Entries.{sets_of}
use Rattle.vtoc_core.specs.Volumes.{VolumeState}
use Rattle.vtoc_core.proofs.SoundLemmas.{sound_tried}
use Rattle.vtoc_core.proofs.volume.Volume.write_first.Goals as goal

pub invariant_of-self : goal.invariant_of-self
invariant_of-self c =
    let v : VolumeState = record { tracks = c.self.inside.tracks; sets = sets_of c.self.inside.sets.entries } in
    sound_tried c.write_first.result v c.args.key.now (λ _. c.args.columns ∷ [])
    (sets_of c.write_first.new.sets.entries) c.write_first.ensures.ok c.write_first.ensures.err c.self.invariant
