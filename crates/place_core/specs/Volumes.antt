-- Tracks set aside on the volume of a serial, and given back.
use Rattle.std.specs.Prelude.{◌≡◌, ℕ, ◌<◌, ◌==◌, Bool, false, nat_le, List, [], ◌∷◌, length, Option, Some, None, slice_index_or, slice_set, if◌then◌else◌}
use Rattle.std.specs.FinMap.{get}
use Rattle.std.specs.Str.{bytes_eq}
use Rattle.extent_core.specs.declared.extent.Extent.{Extent}
use Rattle.vtoc_core.specs.Extents.{five_largest, free_extents, planned}
use Rattle.jcl_meaning.specs.declared.state.Place.{Place}
use Rattle.mount_core.specs.declared.place.KeptPlace.{KeptPlace}
use Rattle.mount_core.specs.Mounts.{MountedState, kept_given_back, kept_for}
use Rattle.shared_core.specs.Rooms.{kept_place}
use Rattle.shared_core.specs.Shown.{kept_extents, mounted_in}

-- so many tracks can be set aside on a volume; none where there is no volume
abbrev pub has_room : ℕ → Option MountedState → Bool
has_room n None = false
has_room n (Some m) = nat_le n (five_largest (free_extents m.volume.tracks))

-- tracks set aside on a volume, where it has room; none where none are asked for
abbrev pub aside_by : Option (List Extent) → KeptPlace → MountedState → MountedState
aside_by None at m = m
aside_by (Some list) at m = kept_for m at list

abbrev pub aside_on : KeptPlace → ℕ → MountedState → MountedState
aside_on at n m = if n == 0 then m else aside_by (planned (free_extents m.volume.tracks) n) at m

-- the volume of a serial changed: of two the first
abbrev pub changed_on : (MountedState → MountedState) → List ℕ → List MountedState → List MountedState
changed_on f serial [] = []
changed_on f serial (m ∷ ms) = if bytes_eq m.serial serial then f m ∷ ms else m ∷ changed_on f serial ms

abbrev pub aside_at : Option (List ℕ) → KeptPlace → ℕ → List MountedState → List MountedState
aside_at None at n volumes = volumes
aside_at (Some serial) at n volumes = changed_on (aside_on at n) serial volumes

-- what is set aside at a place given back
abbrev pub back_on : KeptPlace → MountedState → MountedState
back_on at m = kept_given_back (get m.kept at) m at

-- what was set aside for the sets of a job at these places given back, the last first
abbrev pub all_back : ℕ → List Place → List MountedState → List MountedState
all_back job [] volumes = volumes
all_back job (p ∷ places) volumes = changed_on (back_on (kept_place job p)) p.serial (all_back job places volumes)

-- nothing is set aside at a place on any volume
abbrev pub IsClear : List MountedState → KeptPlace → Type 0
IsClear volumes at = (serial : List ℕ) → kept_extents (mounted_in volumes serial) at ≡ None

-- The volume of a serial is the one at this place of the list.
pub record StandsAt (volumes : List MountedState) (serial : List ℕ) (place : ℕ) : Type 0 where
  pub within : place < length volumes
  pub found : (m : MountedState) → mounted_in volumes serial ≡ Some (slice_index_or volumes place m)
  pub changed : (f : MountedState → MountedState) (m : MountedState) → changed_on f serial volumes ≡ slice_set volumes place (f (slice_index_or volumes place m))

-- No volume has the serial.
pub record IsMissing (volumes : List MountedState) (serial : List ℕ) : Type 0 where
  pub found : mounted_in volumes serial ≡ None
  pub changed : (f : MountedState → MountedState) → changed_on f serial volumes ≡ volumes
