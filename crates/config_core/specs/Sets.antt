-- A set on its way onto a volume.
use Rattle.std.specs.Prelude.{◌≡◌, ℕ, ◌<◌, true, List, [], All, length, Option, None, Some, slice_get, slice_set}
use Rattle.std.specs.FinMap as finite
use Rattle.extent_core.specs.declared.extent.Extent.{Extent}
use Rattle.vtoc_core.specs.declared.entry.SetKey.{SetKey}
use Rattle.vtoc_core.specs.declared.entry.SetKey.TheVariants.{Named}
use Rattle.vtoc_core.specs.Extents.{free_extents, planned}
use Rattle.vtoc_core.specs.Volumes.{marked}
use Rattle.vtoc_core.specs.declared.volume.Track.TheVariants.{InSet}
use Rattle.mount_core.specs.Mounts.{MountedState, holds}
use Rattle.shared_core.specs.Shown.{mounted_in}
use Rattle.config_core.specs.Configs.{changed_at, with_set_on}
use Rattle.session_input.specs.declared.statement.SetStatement.{SetStatement}

-- a set of these extents and records, with its day, if it has one
abbrev pub with_records_on : MountedState → List Extent → SetKey → Option ℕ → List (List ℕ) → MountedState
with_records_on m extents key expires records = record m {
  volume = record {
    tracks = marked InSet extents m.volume.tracks;
    sets = finite.insert m.volume.sets key (record { extents = record { items = extents }; expires = expires; records = records });
  };
}

-- a set that was made without records is given these
abbrev pub GivesRecords : MountedState → SetKey → List (List ℕ) → MountedState → Type 0
GivesRecords old key records new =
    (m : MountedState) (extents : List Extent) (expires : Option ℕ) → old ≡ with_records_on m extents key expires [] →
    new ≡ with_records_on m extents key expires records

-- a set that was made is taken off its volume again, which is then as it was before
abbrev pub TakesOff : MountedState → SetKey → MountedState → Type 0
TakesOff old key new = (m : MountedState) (extents : List Extent) (expires : Option ℕ) (records : List (List ℕ)) (n : ℕ) →
    planned (free_extents m.volume.tracks) n ≡ Some extents → finite.get m.volume.sets key ≡ None → old ≡ with_records_on m extents key expires records → new ≡ m

-- no track is kept on any of these volumes
abbrev pub NothingKept : List MountedState → Type 0
NothingKept volumes = All (λ m. m.kept ≡ finite.empty) volumes

-- the first volume of a serial is at this place
pub record IsPlaceOf (volumes : List MountedState) (serial : List ℕ) (place : ℕ) : Type 0 where
  pub within : place < length volumes
  pub its_volume : MountedState
  pub stands : slice_get volumes place ≡ Some its_volume
  pub found : mounted_in volumes serial ≡ Some its_volume
  pub changed : (f : MountedState → MountedState) → slice_set volumes place (f its_volume) ≡ changed_at f volumes serial

-- a volume has room for a set, and none of its name
pub record CanHold (m : MountedState) (s : SetStatement) : Type 0 where
  pub room : holds None m.volume s.tracks ≡ true
  pub new : finite.get m.volume.sets (Named s.name) ≡ None
  pub nothing_kept : m.kept ≡ finite.empty

-- a set is made of the tracks that its volume has for it
pub record IsMade (old : MountedState) (s : SetStatement) (new : MountedState) : Type 0 where
  pub extents : List Extent
  pub planned_so : planned (free_extents old.volume.tracks) s.tracks ≡ Some extents
  pub made : new ≡ with_set_on old extents s
