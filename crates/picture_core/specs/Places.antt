-- The places of events.
use Rattle.std.specs.Prelude.{ℕ, ◌+◌, ◌<◌, ◌≤◌, List, length, get_or}

-- events keep their order, and no place between two of them is left out
abbrev pub AreInOrder : List ℕ → Type 0
AreInOrder places = (k : ℕ) → k + 1 < length places → (get_or places k 0 ≤ get_or places (k + 1) 0) × (get_or places (k + 1) 0 ≤ get_or places k 0 + 1)
