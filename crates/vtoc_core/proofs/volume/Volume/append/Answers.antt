use Rattle.std.proofs.Common.{◌∷◌, ◌++◌, []}
use Rattle.vtoc_core.specs.Entries.{sets_of}
use Rattle.vtoc_core.specs.Volumes.{VolumeState}
use Rattle.vtoc_core.proofs.SoundLemmas.{sound_tried}
use Rattle.vtoc_core.proofs.volume.Volume.append.Goals as goal

pub invariant_of-self : goal.invariant_of-self
invariant_of-self c =
    let v : VolumeState = record { tracks = c.self.inside.tracks; sets = sets_of c.self.inside.sets.entries } in
    sound_tried c.append.result v c.args.key.now (λ all. all ++ c.args.columns ∷ [])
    (sets_of c.append.new.sets.entries) c.append.ensures.ok c.append.ensures.err c.self.invariant
