use Rattle.std.proofs.Common.{ap, ◌∙◌}
use Rattle.vtoc_core.specs.declared.volume.Track.TheVariants.{Free}
use Rattle.vtoc_core.specs.Volumes.{VolumeState, count_of}
use Rattle.vtoc_core.proofs.volume.Volume.free_tracks.Goals as goal

pub returns : goal.returns
returns c = c.counts.ensures.counted Free ∙ ap (λ (w : VolumeState). count_of Free w.tracks) c.self.view_is
