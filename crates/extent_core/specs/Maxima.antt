-- Numbers as the leaves of a tree whose nodes are the largest below them.
use Rattle.std.specs.Prelude.{◌≡◌, ◌+◌, ◌*◌, ◌^◌, ◌<◌, ◌≤◌, ℕ, List, length, max, slice_index}

-- a node is the larger of the two below it
abbrev pub IsLargest : List ℕ → ℕ → Type 0
IsLargest nodes i = slice_index nodes i ≡ max (slice_index nodes (2 * i)) (slice_index nodes (2 * i + 1))

abbrev pub AreLargest : List ℕ → Type 0
AreLargest nodes = (i : ℕ) → 0 < i → 2 * i < length nodes → IsLargest nodes i

-- a tree of so many levels above its leaves
pub record IsTree (height : ℕ) (nodes : List ℕ) : Type 0 where
  pub size : length nodes ≡ 2 ^ height + 2 ^ height
  pub low : height ≤ 12
  pub largest : AreLargest nodes

-- the first number that is at least so large
pub record IsFirst (numbers : List ℕ) (least place : ℕ) : Type 0 where
  pub within : place < length numbers
  pub enough : least ≤ slice_index numbers place
  pub before : (k : ℕ) → k < place → slice_index numbers k < least

-- the largest number, of equals the first
pub record IsFirstLargest (numbers : List ℕ) (place : ℕ) : Type 0 where
  pub within : place < length numbers
  pub bound : (k : ℕ) → k < length numbers → slice_index numbers k ≤ slice_index numbers place
  pub before : (k : ℕ) → k < place → slice_index numbers k < slice_index numbers place
