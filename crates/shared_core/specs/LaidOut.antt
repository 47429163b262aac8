-- What each track of volumes is. (This profile)
use Rattle.std.specs.Prelude.{List}
use Rattle.std.specs.List.{All}
use Rattle.vtoc_core.specs.Volumes.{IsSoundVolume}
use Rattle.mount_core.specs.Kept.{AreKept}
use Rattle.mount_core.specs.Mounts.{MountedState}

-- No track is in two extents, and no extent is without a track. The tracks of sets are marked so, those that are kept are aside, and no others are: what is
-- left is free, or never is.
pub record IsLaidOut (m : MountedState) : Type 0 where
  pub sets : IsSoundVolume m.volume
  pub kept : AreKept m.volume.tracks m.kept

abbrev pub VolumesAreLaidOut : List MountedState → Type 0
VolumesAreLaidOut volumes = All IsLaidOut volumes
