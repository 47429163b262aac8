-- Which extents the sets of volumes have, and what becomes of them. (This profile)
use Rattle.std.specs.Prelude.{◌≡◌, ℕ, List, [], ◌∷◌, ◌++◌, ◌⊎◌, Option, Some, None}
use Rattle.std.specs.FinMap.{get}
use Rattle.std.specs.Option.{option_map}
use Rattle.extent_core.specs.declared.extent.Extent.{Extent}
use Rattle.vtoc_core.specs.declared.entry.SetEntry.{SetEntry}
use Rattle.vtoc_core.specs.declared.entry.SetKey.{SetKey}
use Rattle.vtoc_core.specs.declared.volume.Track.{Track}
use Rattle.vtoc_core.specs.Extents.{free_extents, kept_front, planned, tracks_in}
use Rattle.mount_core.specs.declared.place.KeptPlace.{KeptPlace}
use Rattle.mount_core.specs.Mounts.{MountedState, unusable_at}
use Rattle.shared_core.specs.Shown.{kept_extents}

-- the extents of a set on a volume, in the order in which they were taken
abbrev pub extents_of : SetEntry → List Extent
extents_of e = e.extents.items

abbrev pub extents_on : Option MountedState → SetKey → Option (List Extent)
extents_on None k = None
extents_on (Some m) k = option_map extents_of (get m.volume.sets k)

-- what each track of a volume is
abbrev pub tracks_on : Option MountedState → List Track
tracks_on None = []
tracks_on (Some m) = m.volume.tracks

-- of a set that gives tracks up the first are left
abbrev pub IsFront : List Extent → List Extent → Type 0
IsFront old new = (tracks : ℕ) × (new ≡ kept_front tracks old)

-- a set that is there gives tracks up, all of them where it is gone; one that is not there does not come to be
abbrev pub GivesUp : Option (List Extent) → Option (List Extent) → Type 0
GivesUp None None = Unit {0}
GivesUp None (Some new) = ⊥
GivesUp (Some old) None = Unit {0}
GivesUp (Some old) (Some new) = IsFront old new

-- a set that is made takes the extents that are kept for it, or else those that its tracks take of the free ones
abbrev pub IsMade : Option (List Extent) → List Extent → List Extent → Type 0
IsMade None free new = planned free (tracks_in new) ≡ Some new
IsMade (Some kept) free new = new ≡ kept

-- one that grows takes those that its further tracks take of the free ones, behind its own
abbrev pub IsGrown : List Extent → List Extent → List Extent → Type 0
IsGrown free old new = (more : List Extent) × (planned free (tracks_in more) ≡ Some more) × (new ≡ old ++ more)

-- a set where these extents are kept for one that is made, and these are free
abbrev pub Takes : Option (List Extent) → List Extent → Option (List Extent) → Option (List Extent) → Type 0
Takes kept free None None = Unit {0}
Takes kept free None (Some new) = IsMade kept free new
Takes kept free (Some old) None = Unit {0}
Takes kept free (Some old) (Some new) = IsFront old new ⊎ IsGrown free old new

-- On a volume the extents of each set stay; and what each track is.
pub record StayOn (old new : Option MountedState) : Type 0 where
  pub extents : (k : SetKey) → extents_on new k ≡ extents_on old k
  pub tracks : tracks_on new ≡ tracks_on old

-- On a volume sets give tracks up, and none takes any.
pub record GiveUpOn (old new : Option MountedState) : Type 0 where
  pub extents : (k : SetKey) → GivesUp (extents_on old k) (extents_on new k)
  pub unusable : (n : ℕ) → unusable_at (tracks_on new) n ≡ unusable_at (tracks_on old) n

-- On a volume sets take tracks, or give them up, where these extents are kept for one that is made.
pub record TakeOn (kept : Option (List Extent)) (old new : Option MountedState) : Type 0 where
  pub extents : (k : SetKey) → Takes kept (free_extents (tracks_on old)) (extents_on old k) (extents_on new k)
  pub unusable : (n : ℕ) → unusable_at (tracks_on new) n ≡ unusable_at (tracks_on old) n

-- A set is made by an event: it has the extents that were kept for it and are not any more, or else those that its tracks take of the free ones.
pub record IsMadeOf (old new : Option MountedState) (list : List Extent) : Type 0 where
  pub kept : (at : KeptPlace) (extents : List Extent) → kept_extents old at ≡ Some extents → kept_extents new at ≡ None → list ≡ extents
  pub free : ((at : KeptPlace) → kept_extents new at ≡ kept_extents old at) → planned (free_extents (tracks_on old)) (tracks_in list) ≡ Some list

-- the extents of a set on a volume before an event and behind it: as they were, the first tracks of them, or these and more behind them
abbrev pub Follows : Option MountedState → Option MountedState → Option (List Extent) → Option (List Extent) → Type 0
Follows old new None None = Unit {0}
Follows old new None (Some list) = IsMadeOf old new list
Follows old new (Some before) None = Unit {0}
Follows old new (Some before) (Some list) = IsFront before list ⊎ IsGrown (free_extents (tracks_on old)) before list

-- what is kept for a set stays, or is kept no more
abbrev pub StaysKept : Option (List Extent) → Option (List Extent) → Type 0
StaysKept old new = (new ≡ old) ⊎ (new ≡ None)

-- What becomes of a volume's extents at an event at which none are kept.
pub record FollowOn (old new : Option MountedState) : Type 0 where
  pub sets : (k : SetKey) → Follows old new (extents_on old k) (extents_on new k)
  pub kept : (at : KeptPlace) → StaysKept (kept_extents old at) (kept_extents new at)
  pub unusable : (n : ℕ) → unusable_at (tracks_on new) n ≡ unusable_at (tracks_on old) n
