-- Where a volume is mounted, and what is written on one volume of all.
use Rattle.std.specs.Prelude.{◌≡◌, ℕ, ◌<◌, ◌&&◌, Bool, true, List, length, map, Option, Some, None, slice_get, slice_set, if◌then◌else◌}
use Rattle.std.specs.FinMap.{get}
use Rattle.std.specs.Option.{option_map}
use Rattle.std.specs.Str.{bytes_eq}
use Rattle.extent_core.specs.declared.extent.Extent.{Extent}
use Rattle.vtoc_core.specs.declared.entry.SetKey.{SetKey}
use Rattle.vtoc_core.specs.Entries.{same_key}
use Rattle.jcl_meaning.specs.declared.store.DataSet.{DataSet}
use Rattle.jcl_meaning.specs.Programs.{grown_by}
use Rattle.mount_core.specs.declared.place.KeptPlace.{KeptPlace}
use Rattle.mount_core.specs.Mounts.{MountedState}
use Rattle.store_core.specs.Actions.{new_set_of}
use Rattle.shared_core.specs.Extents.{GiveUpOn, StayOn, TakeOn}
use Rattle.shared_core.specs.Rooms.{all_tracks, holds_more, holds_new, is_same_place, room_of}
use Rattle.shared_core.specs.Shown.{kept_extents, mounted_in, set_on}

-- a volume is mounted under a serial
abbrev pub is_mounted : List ℕ → MountedState → Bool
is_mounted serial m = bytes_eq m.serial serial

-- The volume of a serial is the one at this place, and whatever stands there in its stead is that of this serial alone.
pub record IsFirstMounted (volumes : List MountedState) (serial : List ℕ) (place : ℕ) : Type 0 where
  pub within : place < length volumes
  pub its_volume : MountedState
  pub stands : slice_get volumes place ≡ Some its_volume
  pub found : mounted_in volumes serial ≡ Some its_volume
  pub changed : (other : MountedState) (v : List ℕ) → other.serial ≡ its_volume.serial →
      mounted_in (slice_set volumes place other) v ≡ if bytes_eq v serial then Some other else mounted_in volumes v
  pub rooms : (other : MountedState) → room_of other ≡ room_of its_volume → map room_of (slice_set volumes place other) ≡ map room_of volumes

-- One set of a volume is now this, or none, and as many tracks as before are free, aside or in sets.
pub record WritesOn (old new : MountedState) (k : SetKey) (there : Option DataSet) : Type 0 where
  pub set : (q : SetKey) → set_on (Some new) q ≡ if same_key q k then there else set_on (Some old) q
  pub serial : new.serial ≡ old.serial
  pub all : all_tracks new.volume.tracks ≡ all_tracks old.volume.tracks

-- what is kept stays, or but for one place
abbrev pub KeepsOn : MountedState → MountedState → Type 0
KeepsOn old new = new.kept ≡ old.kept

abbrev pub KeepsOthersOn : MountedState → MountedState → KeptPlace → Type 0
KeepsOthersOn old new place = (at : KeptPlace) → get new.kept at ≡ if is_same_place at place then None else get old.kept at

-- the set that is there, if one is, is changed
abbrev pub ChangesOn : (DataSet → DataSet) → MountedState → MountedState → SetKey → Type 0
ChangesOn f old new k = WritesOn old new k (option_map f (set_on (Some old) k)) × KeepsOn old new

-- a set without records is made on a volume that has room for it: what was kept for it at its place is kept no more
abbrev pub MakesSetOn : MountedState → MountedState → SetKey → KeptPlace → ℕ → Option ℕ → Type 0
MakesSetOn old new k place tracks expires =
    WritesOn old new k (Some (new_set_of tracks expires)) × KeepsOthersOn old new place × (holds_new (Some k) (Some old) place tracks ≡ true)

-- The same among all volumes, on that of a serial.
pub record Writes (old new : List MountedState) (k : SetKey) (serial : List ℕ) (there : Option DataSet) : Type 0 where
  pub set : (q : SetKey) (v : List ℕ) →
      set_on (mounted_in new v) q ≡ if same_key q k && bytes_eq v serial then there else set_on (mounted_in old v) q
  pub rooms : map room_of new ≡ map room_of old

abbrev pub Keeps : List MountedState → List MountedState → Type 0
Keeps old new = (v : List ℕ) (at : KeptPlace) → kept_extents (mounted_in new v) at ≡ kept_extents (mounted_in old v) at

abbrev pub KeepsOthers : List MountedState → List MountedState → List ℕ → KeptPlace → Type 0
KeepsOthers old new serial place = (v : List ℕ) (at : KeptPlace) →
    kept_extents (mounted_in new v) at ≡ if is_same_place at place && bytes_eq v serial then None else kept_extents (mounted_in old v) at

abbrev pub Changes : (DataSet → DataSet) → List MountedState → List MountedState → SetKey → List ℕ → Type 0
Changes f old new k serial = Writes old new k serial (option_map f (set_on (mounted_in old serial) k)) × Keeps old new

-- a set is made so on the volume of a serial
abbrev pub MakesSet : List MountedState → List MountedState → SetKey → List ℕ → KeptPlace → ℕ → Option ℕ → Type 0
MakesSet old new k serial place tracks expires = Writes old new k serial (Some (new_set_of tracks expires)) × KeepsOthers old new serial place
    × (holds_new (Some k) (mounted_in old serial) place tracks ≡ true)

-- a set has so many tracks more on a volume that has room for them
abbrev pub GrowsSet : ℕ → List MountedState → List MountedState → SetKey → List ℕ → Type 0
GrowsSet tracks old new k serial = Changes (grown_by tracks) old new k serial × (holds_more (Some k) (mounted_in old serial) tracks ≡ true)

-- what becomes of the extents on each volume
abbrev pub Stay : List MountedState → List MountedState → Type 0
Stay old new = (v : List ℕ) → StayOn (mounted_in old v) (mounted_in new v)

abbrev pub GiveUpTracks : List MountedState → List MountedState → Type 0
GiveUpTracks old new = (v : List ℕ) → GiveUpOn (mounted_in old v) (mounted_in new v)

abbrev pub TakeTracks : List MountedState → List MountedState → Type 0
TakeTracks old new = (v : List ℕ) → TakeOn None (mounted_in old v) (mounted_in new v)

-- for a set that is made at a place on the volume of a serial
abbrev pub kept_there : List ℕ → KeptPlace → List ℕ → Option MountedState → Option (List Extent)
kept_there serial place v o = if bytes_eq v serial then kept_extents o place else None

abbrev pub TakeTracksAt : List ℕ → KeptPlace → List MountedState → List MountedState → Type 0
TakeTracksAt serial place old new = (v : List ℕ) → TakeOn (kept_there serial place v (mounted_in old v)) (mounted_in old v) (mounted_in new v)
