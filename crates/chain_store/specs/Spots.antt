-- Where the records of chains stand, by their numbers. The spot of record n is at n - 1. (This profile)
use Rattle.std.specs.Prelude.{◌≡◌, ◌≢◌, ℕ, zero, suc, ◌<◌, ◌≤◌, ◌⊎◌, List, [], ◌∷◌, Option, None, Some, IfSome, slice_index_or}
use Rattle.chain_store.specs.declared.spots.Found.{Found}
use Rattle.chain_store.specs.declared.spots.Spot.{Spot}
use Rattle.chain_store.specs.Links.{owned_by}

abbrev pub spot_of : List (Option Spot) → ℕ → Option Spot
spot_of spots zero = None
spot_of spots (suc i) = slice_index_or spots i None

-- a number is among some
abbrev pub IsAmong : ℕ → List ℕ → Type 0
IsAmong n [] = ⊥
IsAmong n (m ∷ ms) = (n ≡ m) ⊎ IsAmong n ms

-- records of the chain at a place stand one behind the other, the first of them behind another
abbrev pub Stand : List (Option Spot) → ℕ → ℕ → List ℕ → Type 0
Stand spots place before [] = Unit {0}
Stand spots place before (n ∷ ns) = (spot_of spots n ≡ Some (record { place = place; before = before })) × Stand spots place n ns

-- The records of all chains, by their places, stand where it is noted, and no others.
pub record AreNoted (spots : List (Option Spot)) (records : ℕ → List ℕ) : Type 0 where
  pub each : (place : ℕ) → Stand spots place 0 (records place)
  pub only : (n : ℕ) → IfSome (spot_of spots n) (λ spot. IsAmong n (records spot.place))

-- a record that a job owns, with its spot
pub record IsFound (owners : List ℕ) (spots : List (Option Spot)) (job : ℕ) (found : Found) : Type 0 where
  pub of_job : owned_by owners found.n ≡ job
  pub spot : spot_of spots found.n ≡ Some found.spot

-- no record behind one number, up to another, is one that a job owns and that is in a chain
abbrev pub HasNoSpot : List ℕ → List (Option Spot) → ℕ → ℕ → ℕ → Type 0
HasNoSpot owners spots job low high = (n : ℕ) → low < n → n ≤ high → owned_by owners n ≡ job → spot_of spots n ≡ None

-- a job owns none of the records behind one number, up to another
abbrev pub OwnsNone : List ℕ → ℕ → ℕ → ℕ → Type 0
OwnsNone owners job low high = (n : ℕ) → low < n → n ≤ high → owned_by owners n ≢ job
