-- The free extents as numbers of tracks: at the first track of each how many it has, and so behind its last track.
use Rattle.std.specs.Prelude.{◌≡◌, ℕ, ◌+◌, ◌-◌, ◌<◌, ◌≤◌, Bool, nat_lt, List, [], ◌∷◌, length, max, take, slice_index}
use Rattle.jcl_plan.specs.declared.plan.TheConstants.{MOST_TRACKS}

-- which tracks are free, where an extent further in front has so many yet
abbrev pub covered : ℕ → List ℕ → List Bool
covered left [] = []
covered left (size ∷ sizes) = nat_lt 0 (max left size) ∷ covered (max left size - 1) sizes

-- which of so many tracks are free
abbrev pub tracks_of : ℕ → List ℕ → List Bool
tracks_of count sizes = covered 0 (take count sizes)

-- extents lie within so many tracks and do not touch, and the numbers in front and behind are the same
pub record AreKept (count : ℕ) (sizes ends : List ℕ) : Type 0 where
  pub few : count ≤ MOST_TRACKS
  pub room : count < length sizes
  pub end_room : count < length ends
  pub within : (k : ℕ) → 0 < slice_index sizes k → k + slice_index sizes k ≤ count
  pub apart : (j k : ℕ) → j < k → 0 < slice_index sizes j → 0 < slice_index sizes k → j + slice_index sizes j < k
  pub ended : (k : ℕ) → 0 < slice_index sizes k → slice_index ends (k + slice_index sizes k) ≡ slice_index sizes k
  pub begun : (k : ℕ) → 0 < slice_index ends k → (slice_index ends k ≤ k) × (slice_index sizes (k - slice_index ends k) ≡ slice_index ends k)
