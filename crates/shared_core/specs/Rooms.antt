-- What stays of the store when one job writes what it sees, and which tracks it is granted.
use Rattle.std.specs.Prelude.{◌≡◌, ℕ, ◌+◌, ◌==◌, ◌&&◌, Bool, true, false, nat_le, length, List, [], ◌∷◌, map, Option, Some, None, if◌then◌else◌}
use Rattle.std.specs.FinMap.{get}
use Rattle.std.specs.Str.{bytes_eq}
use Rattle.extent_core.specs.declared.extent.Extent.{Extent}
use Rattle.jname_core.specs.declared.key.Key.{Key}
use Rattle.vtoc_core.specs.declared.entry.SetEntry.{SetEntry}
use Rattle.vtoc_core.specs.declared.entry.SetKey.{SetKey}
use Rattle.vtoc_core.specs.declared.entry.SetKey.TheVariants.{Named, Temporary, Unnamed}
use Rattle.vtoc_core.specs.declared.volume.Track.{Track}
use Rattle.vtoc_core.specs.declared.volume.Track.TheVariants.{Free, Aside, InSet}
use Rattle.vtoc_core.specs.Extents.{free_extents, planned}
use Rattle.vtoc_core.specs.Volumes.{VolumeState, count_of}
use Rattle.jcl_meaning.specs.declared.state.Place.{Place}
use Rattle.jcl_meaning.specs.declared.store.DataSet.{DataSet}
use Rattle.world_meaning.specs.Lenses.{WorldStore, world_key}
use Rattle.mount_core.specs.declared.place.KeptPlace.{KeptPlace}
use Rattle.mount_core.specs.Mounts.{MountedState, holds, unusable_at}
use Rattle.shared_core.specs.declared.store.SharedStore.{SharedStore}
use Rattle.shared_core.specs.Extents.{GivesUp, Takes, extents_on, tracks_on}
use Rattle.shared_core.specs.Shown.{kept_extents, mounted_in, world_store_of}

-- the sets that others than a job alone see
abbrev pub set_of_others : ℕ → WorldStore → SetKey → List ℕ → Option DataSet
set_of_others job w (Named name) serial = None
set_of_others job w (Temporary owner name) serial = if owner == job then None else w.set (Temporary owner name) serial
set_of_others job w (Unnamed owner step dd) serial = if owner == job then None else w.set (Unnamed owner step dd) serial

-- a volume's tracks that are free, aside or in sets
pub record Room : Type 0 where
  pub serial : List ℕ
  pub all : ℕ

abbrev pub all_tracks : List Track → ℕ
all_tracks tracks = count_of Free tracks + (count_of Aside tracks + count_of InSet tracks)

abbrev pub room_of : MountedState → Room
room_of m = record { serial = m.serial; all = all_tracks m.volume.tracks }

-- What else is known of the store: the sets that others alone see, how many tracks each volume has for sets, which are kept, which extents each
-- set has, and what each track is.
pub record Others : Type 0 where
  pub set : SetKey → List ℕ → Option DataSet
  pub rooms : List Room
  pub kept : List ℕ → KeptPlace → Option (List Extent)
  pub extents : List ℕ → SetKey → Option (List Extent)
  pub tracks : List ℕ → List Track

abbrev pub others_of : ℕ → SharedStore → Others
others_of job s = record {
  set = λ k serial. set_of_others job (world_store_of s) k serial;
  rooms = map room_of s.volumes;
  kept = λ serial at. kept_extents (mounted_in s.volumes serial) at;
  extents = λ serial k. extents_on (mounted_in s.volumes serial) k;
  tracks = λ serial. tracks_on (mounted_in s.volumes serial);
}

-- a set that is made uses up the tracks that are kept for it on its volume
abbrev pub kept_place : ℕ → Place → KeptPlace
kept_place job p = record { job = job; step = p.step; dd = p.dd }

abbrev pub is_same_place : KeptPlace → KeptPlace → Bool
is_same_place a b = a.job == b.job && a.step == b.step && a.dd == b.dd

abbrev pub without_kept : ℕ → List Place → (List ℕ → KeptPlace → Option (List Extent)) → List ℕ → KeptPlace → Option (List Extent)
without_kept job [] kept = kept
without_kept job (p ∷ places) kept =
    without_kept job places (λ serial at. if is_same_place at (kept_place job p) && bytes_eq serial p.serial then None else kept serial at)

-- Sets give tracks up, and all else stays.
pub record GiveUp (old new : Others) : Type 0 where
  pub set : new.set ≡ old.set
  pub rooms : new.rooms ≡ old.rooms
  pub kept : new.kept ≡ old.kept
  pub extents : (serial : List ℕ) (k : SetKey) → GivesUp (old.extents serial k) (new.extents serial k)
  pub unusable : (serial : List ℕ) (n : ℕ) → unusable_at (new.tracks serial) n ≡ unusable_at (old.tracks serial) n

-- what is kept on a volume for the set that a job makes at these places: an action makes one set at most
abbrev pub kept_at : ℕ → List Place → (List ℕ → KeptPlace → Option (List Extent)) → List ℕ → Option (List Extent)
kept_at job [] kept serial = None
kept_at job (p ∷ places) kept serial = if bytes_eq serial p.serial then kept serial (kept_place job p) else None

-- Sets of a job take tracks: those that it makes at these places, or one that grows. All else stays.
pub record Take (job : ℕ) (places : List Place) (old new : Others) : Type 0 where
  pub set : new.set ≡ old.set
  pub rooms : new.rooms ≡ old.rooms
  pub kept : new.kept ≡ without_kept job places old.kept
  pub extents : (serial : List ℕ) (k : SetKey) →
      Takes (kept_at job places old.kept serial) (free_extents (old.tracks serial)) (old.extents serial k) (new.extents serial k)
  pub unusable : (serial : List ℕ) (n : ℕ) → unusable_at (new.tracks serial) n ≡ unusable_at (old.tracks serial) n

-- a primary is granted where it is kept, or where none is kept and the five largest free extents of its volume hold it
abbrev pub holds_new : Option SetKey → Option MountedState → KeptPlace → ℕ → Bool
holds_new None m at n = false
holds_new (Some k) None at n = false
holds_new (Some k) (Some m) at n = holds (get m.kept at) m.volume n

abbrev pub grants_new : ℕ → SharedStore → Key → Place → ℕ → Bool
grants_new job s key place n = holds_new (world_key job key) (mounted_in s.volumes place.serial) (kept_place job place) n

-- further tracks are granted where the five largest hold them and the set then has sixteen extents at most; what is not there does not grow
abbrev pub fits_behind : SetEntry → Option (List Extent) → Bool
fits_behind e None = false
fits_behind e (Some more) = nat_le (length e.extents.items + length more) 16

abbrev pub entry_grows : Option SetEntry → VolumeState → ℕ → Bool
entry_grows None v n = true
entry_grows (Some e) v n = fits_behind e (planned (free_extents v.tracks) n)

abbrev pub holds_more : Option SetKey → Option MountedState → ℕ → Bool
holds_more None m n = true
holds_more (Some k) None n = true
holds_more (Some k) (Some m) n = entry_grows (get m.volume.sets k) m.volume n

abbrev pub grants_growth : ℕ → SharedStore → Key → List ℕ → ℕ → Bool
grants_growth job s key serial n = holds_more (world_key job key) (mounted_in s.volumes serial) n
