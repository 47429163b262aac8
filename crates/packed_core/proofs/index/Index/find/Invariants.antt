use Rattle.std.proofs.Common.{◌≡◌, ◌<◌, ◌≤◌, ◌+◌, ℕ, List, length}
use Rattle.packed_core.specs.Indexed.{hash_at, place_in}
use Rattle.packed_core.specs.Rows.{row_at}
use Rattle.packed_core.specs.Words.{joined_words}
use Rattle.packed_core.proofs.index.Index.find.Given as goal

-- the row is none of those that were passed, and what is left has its place
abbrev pub invariant-loop-left : goal.invariant-loop-left
invariant-loop-left l =
    let rows : List (List ℕ) = l.rows in
    let places : ℕ = length l.self.heads.items in
    record {
      within : l.left ≤ length rows;
      sought : (i : ℕ) → i < length rows → row_at rows i ≡ joined_words l.row l.mask → i < l.left;
      here : (i : ℕ) → l.left ≡ i + 1 → place_in places (hash_at l.self.hashes.items i) ≡ place_in places l.hash;
    }

abbrev pub decreases-loop-left : goal.decreases-loop-left
decreases-loop-left l = l.left
