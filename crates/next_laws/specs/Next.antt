-- A volume, and a store, behind an event at which nothing is kept. (This profile)
use Rattle.std.specs.Prelude.{◌≡◌, Some}
use Rattle.plain.specs.Lists.{Differ}
use Rattle.vtoc_core.specs.declared.entry.SetKey.{SetKey}
use Rattle.mount_core.specs.Mounts.{MountedState}
use Rattle.shared_core.specs.Extents.{FollowOn}
use Rattle.shared_core.specs.LaidOut.{IsLaidOut, VolumesAreLaidOut}
use Rattle.shared_core.specs.Laws.{Follow}
use Rattle.shared_core.specs.Shown.{set_on, world_store_of}
use Rattle.shared_core.specs.Tracks.{kept_shown, kept_tracks}
use Rattle.shared_core.specs.declared.store.SharedStore.{SharedStore}
use Rattle.place_core.specs.Placings.{serials_of}

-- Its extents follow, and each of its tracks is what they say.
pub record IsNextVolume (old new : MountedState) : Type 0 where
  pub follows : FollowOn (Some old) (Some new)
  pub laid_out : IsLaidOut new

-- Of two volumes the same is shown: the serial, each set with how many tracks it has, and how many are kept where.
pub record AreShownAlike (one other : MountedState) : Type 0 where
  pub serial : one.serial ≡ other.serial
  pub sets : (key : SetKey) → set_on (Some one) key ≡ set_on (Some other) key
  pub kept : kept_tracks (Some one) ≡ kept_tracks (Some other)

-- Then they are one volume, track by track.
abbrev pub NextVolumeIsDecided : Type 0
NextVolumeIsDecided = (old one other : MountedState) → IsLaidOut old → IsNextVolume old one → IsNextVolume old other → AreShownAlike one other → one ≡ other

-- The volumes of a store stay in their order, their extents follow, and each of their tracks is what these say.
pub record IsNextStore (old new : SharedStore) : Type 0 where
  pub serials : serials_of new.volumes ≡ serials_of old.volumes
  pub follow : Follow old new
  pub laid_out : VolumesAreLaidOut new.volumes

-- Two such stores of which the same is shown are one.
abbrev pub NextStoreIsDecided : Type 0
NextStoreIsDecided = (old one other : SharedStore) → Differ (serials_of old.volumes) → VolumesAreLaidOut old.volumes → IsNextStore old one →
    IsNextStore old other → world_store_of one ≡ world_store_of other → kept_shown one.volumes ≡ kept_shown other.volumes → one ≡ other
