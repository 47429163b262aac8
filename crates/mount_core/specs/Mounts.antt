-- A mounted volume: its serial, its tracks and sets, and the tracks that are kept on it.
use Rattle.std.specs.Prelude.{◌≡◌, ℕ, ◌+◌, Bool, true, false, ◌==◌, nat_le, List, [], slice_get, Option, Some, None, refl}
use Rattle.std.specs.Coded.{Coded, code_by, coded×, coded_list, coded_ℕ}
use Rattle.std.specs.FinMap.{insert, remove, get}
use Rattle.std.specs.Option.{option_map}
use Rattle.extent_core.specs.declared.extent.Extent.{Extent}
use Rattle.vtoc_core.specs.Volumes.{Moves, VolumeState, coded_volume, count_of, marked, extents_of_all}
use Rattle.vtoc_core.specs.Extents.{five_largest, free_extents, planned, tracks_in}
use Rattle.vtoc_core.specs.declared.entry.SetKey.{SetKey}
use Rattle.vtoc_core.specs.declared.volume.Track.{Track}
use Rattle.vtoc_core.specs.declared.volume.Track.TheVariants.{Aside, Free, InSet, Unusable}
use Rattle.mount_core.specs.declared.place.KeptPlace.{KeptPlace}
use Rattle.mount_core.specs.Codes.{coded_kept}
use Rattle.mount_core.specs.Kept.{Kept, extents_kept}

pub record MountedState : Type 0 where
  pub serial : List ℕ
  pub volume : VolumeState
  pub kept : Kept

-- the code by which mounted volumes are told apart
abbrev pub coded_mounted : Coded MountedState
coded_mounted =
    code_by (List ℕ × (VolumeState × Kept)) (coded× (coded_list coded_ℕ) (coded× coded_volume coded_kept))
    (λ m. (m.serial, (m.volume, m.kept))) (λ p. record { serial = p.0; volume = p.1.0; kept = p.1.1 }) (λ _. refl)

-- whether the track of a number is there and never free
abbrev pub is_unusable : Track → Bool
is_unusable Free = false
is_unusable Aside = false
is_unusable InSet = false
is_unusable Unusable = true

abbrev pub unusable_at : List Track → ℕ → Option Bool
unusable_at tracks n = option_map is_unusable (slice_get tracks n)

-- tracks kept at a place
abbrev pub kept_for : MountedState → KeptPlace → List Extent → MountedState
kept_for m place list = record m { volume = record m.volume { tracks = marked Aside list m.volume.tracks }; kept = insert m.kept place list }

-- the tracks of a place given back
abbrev pub kept_given_back : Option (List Extent) → MountedState → KeptPlace → MountedState
kept_given_back None m place = m
kept_given_back (Some list) m place = record m { volume = record m.volume { tracks = marked Free list m.volume.tracks }; kept = remove m.kept place }

-- the tracks of a volume that are free, aside or in sets
abbrev pub all_tracks : VolumeState → ℕ
all_tracks v = count_of Free v.tracks + (count_of Aside v.tracks + count_of InSet v.tracks)

-- whether so many tracks are there for a set: those that are kept for it, or free ones
abbrev pub holds : Option (List Extent) → VolumeState → ℕ → Bool
holds None v n = nat_le n (five_largest (free_extents v.tracks))
holds (Some list) v n = tracks_in list == n

-- a set made of free tracks
abbrev pub made_of_free : MountedState → List Extent → SetKey → Option ℕ → MountedState
made_of_free m list key expires = record m {
  volume = record {
    tracks = marked InSet list m.volume.tracks;
    sets = insert m.volume.sets key (record { extents = record { items = list }; expires = expires; records = [] });
  };
}

-- a set made of the tracks that are kept for it
abbrev pub made_of_kept : MountedState → KeptPlace → List Extent → SetKey → Option ℕ → MountedState
made_of_kept m place list key expires = record m {
  volume = record {
    tracks = marked InSet list m.volume.tracks;
    sets = insert m.volume.sets key (record { extents = record { items = list }; expires = expires; records = [] });
  };
  kept = remove m.kept place;
}

-- a set was made: of so many kept tracks, or of free ones as they are planned
abbrev pub WasMade : Option (List Extent) → MountedState → KeptPlace → SetKey → ℕ → Option ℕ → MountedState → Type 0
WasMade None old place key n expires new = (list : List Extent) × (planned (free_extents old.volume.tracks) n ≡ Some list) × (tracks_in list ≡ n)
    × (new ≡ made_of_free old list key expires) × Moves Free InSet n old.volume.tracks new.volume.tracks
WasMade (Some list) old place key n expires new = (tracks_in list ≡ n) × (new ≡ made_of_kept old place list key expires)
    × Moves Aside InSet n old.volume.tracks new.volume.tracks

-- so many free tracks are kept at a place
abbrev pub KeepsAt : MountedState → KeptPlace → ℕ → MountedState → Type 0
KeepsAt old place n new = (list : List Extent) × (planned (free_extents old.volume.tracks) n ≡ Some list) × (new ≡ kept_for old place list)

-- whether so many tracks are there for the set of a place
abbrev pub holds_for : MountedState → KeptPlace → ℕ → Bool
holds_for m place n = holds (get m.kept place) m.volume n

-- the tracks of all kinds, each counted where it is: free, kept, in sets, and never free
abbrev pub tracks_counted : MountedState → ℕ
tracks_counted m = count_of Free m.volume.tracks + tracks_in (extents_kept m.kept) + tracks_in (extents_of_all m.volume.sets) + count_of Unusable m.volume.tracks

-- tracks that are kept and given back leave the volume as it was
abbrev pub KeptIsGivenBack : Type 0
KeptIsGivenBack = (m : MountedState) (place : KeptPlace) (n : ℕ) (list : List Extent) → get m.kept place ≡ None → planned (free_extents m.volume.tracks) n ≡ Some list →
    kept_given_back (get (kept_for m place list).kept place) (kept_for m place list) place ≡ m
