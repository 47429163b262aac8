-- The tracks of all volumes: which are free, which are kept, and that they add up.
use Rattle.std.specs.Prelude.{◌≡◌, ℕ, List, [], map, Option, Some, None}
use Rattle.std.specs.FinMap.{entries}
use Rattle.std.specs.List.{All}
use Rattle.vtoc_core.specs.declared.volume.Track.TheVariants.{Aside, Free, InSet}
use Rattle.vtoc_core.specs.Extents.{tracks_in}
use Rattle.vtoc_core.specs.Volumes.{count_of, extents_of_all}
use Rattle.extent_core.specs.declared.extent.Extent.{Extent}
use Rattle.world_meaning.specs.Tracks.{Conserves}
use Rattle.world_meaning.specs.Worlds.{Kept, Shared}
use Rattle.mount_core.specs.declared.place.KeptPlace.{KeptPlace}
use Rattle.mount_core.specs.Kept.{extents_kept}
use Rattle.mount_core.specs.Mounts.{MountedState}
use Rattle.shared_core.specs.declared.store.SharedStore.{SharedStore}
use Rattle.shared_core.specs.Shown.{kept_extents, mounted_in, world_store_of}

-- the free tracks of the volume of a serial; none where there is no volume
abbrev pub free_tracks : Option MountedState → ℕ
free_tracks None = 0
free_tracks (Some m) = count_of Free m.volume.tracks

abbrev pub free_on : List MountedState → List ℕ → ℕ
free_on volumes serial = free_tracks (mounted_in volumes serial)

-- The tracks of a volume that are aside are those that are kept, and those in sets are those of its sets' extents.
pub record AddsUp (m : MountedState) : Type 0 where
  pub aside : count_of Aside m.volume.tracks ≡ tracks_in (extents_kept m.kept)
  pub in_sets : count_of InSet m.volume.tracks ≡ tracks_in (extents_of_all m.volume.sets)

abbrev pub VolumesAddUp : SharedStore → Type 0
VolumesAddUp s = All AddsUp s.volumes

-- what is kept on the volume of a serial, each list of extents by its tracks
abbrev pub kept_entry : KeptPlace × List Extent → Kept
kept_entry e = record { job = e.0.job; step = e.0.step; dd = e.0.dd; tracks = tracks_in e.1 }

abbrev pub kept_tracks : Option MountedState → List Kept
kept_tracks None = []
kept_tracks (Some m) = map kept_entry (entries m.kept)

abbrev pub kept_shown : List MountedState → List ℕ → List Kept
kept_shown volumes serial = kept_tracks (mounted_in volumes serial)

-- no tracks are kept
abbrev pub NothingKept : SharedStore → Type 0
NothingKept s = (serial : List ℕ) (at : KeptPlace) → kept_extents (mounted_in s.volumes serial) at ≡ None

-- What the machine's definitions have for a store: its sets and catalog, its free tracks, and what is kept.
pub record IsShown (s : SharedStore) (shared : Shared) : Type 0 where
  pub store : shared.store ≡ world_store_of s
  pub free : (serial : List ℕ) → shared.free serial ≡ free_on s.volumes serial
  pub kept : shared.kept ≡ kept_shown s.volumes

-- Whatever else the machine has, between these two stores each volume's tracks are conserved.
abbrev pub ConservesTracks : SharedStore → SharedStore → Type 0
ConservesTracks old new = (before after : Shared) → IsShown old before → IsShown new after → Conserves before after
