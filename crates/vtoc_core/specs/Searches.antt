-- Free extents that are taken and freed one after another.
use Rattle.std.specs.Prelude.{◌≡◌, Bool, true, false, List, [], ◌∷◌, Contains, Option, Some, None, ℕ}
use Rattle.extent_core.specs.declared.extent.Extent.{Extent}
use Rattle.extent_core.specs.Extents.{IsTaken, free_extents, marked}
use Rattle.vtoc_core.specs.Extents.{largest_taken, planned}

-- the tracks of these extents are now all free, or all not free
abbrev pub marked_each : Bool → List Extent → List Bool → List Bool
marked_each free [] tracks = tracks
marked_each free (e ∷ es) tracks = marked_each free es (marked free e tracks)

-- each of these extents has no free track once those in front of it are freed
abbrev pub TakenInTurn : List Bool → List Extent → Type 0
TakenInTurn tracks [] = Unit {0}
TakenInTurn tracks (e ∷ es) = IsTaken tracks e × TakenInTurn (marked true e tracks) es

-- each of these extents is free once those in front of it are taken
abbrev pub FreeInTurn : List Bool → List Extent → Type 0
FreeInTurn tracks [] = Unit {0}
FreeInTurn tracks (e ∷ es) = Contains (free_extents tracks) e × FreeInTurn (marked false e tracks) es

-- free extents were taken, one after another
pub record WereTaken (before : List Bool) (extents : List Extent) (now : List Bool) : Type 0 where
  pub free : FreeInTurn before extents
  pub marked : now ≡ marked_each false extents before

-- the extents that are planned for so many among free tracks, and the largest that hold so many
abbrev pub planned_in : List Bool → ℕ → Option (List Extent)
planned_in free n = planned (free_extents free) n

abbrev pub largest_in : List Bool → ℕ → Option (List Extent)
largest_in free n = largest_taken 5 (free_extents free) n

-- of free tracks none was taken, since there is no plan; or the planned ones were
abbrev pub TakesNone : Option (List Extent) → List Bool → List Bool → Type 0
TakesNone plan old new = (plan ≡ None) × (new ≡ old)

abbrev pub TakesPlanned : Option (List Extent) → List Extent → List Bool → List Bool → Type 0
TakesPlanned plan list old new = (plan ≡ Some list) × (new ≡ marked_each false list old)
