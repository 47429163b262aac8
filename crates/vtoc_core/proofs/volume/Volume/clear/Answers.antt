use Rattle.std.proofs.Common.{[]}
use Rattle.vtoc_core.specs.Entries.{sets_of}
use Rattle.vtoc_core.specs.Volumes.{VolumeState}
use Rattle.vtoc_core.proofs.SoundLemmas.{sound_by}
use Rattle.vtoc_core.proofs.volume.Volume.clear.Goals as goal

pub invariant_of-self : goal.invariant_of-self
invariant_of-self c =
    let v : VolumeState = record { tracks = c.self.inside.tracks; sets = sets_of c.self.inside.sets.entries } in
    sound_by v c.args.key.now (λ _. []) (sets_of c.clear.new.sets.entries) c.clear.ensures.cleared c.self.invariant
