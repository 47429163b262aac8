use Rattle.std.proofs.Common.{◌≡◌, ◌<◌, ℕ}
use Rattle.packed_core.specs.Rows.{row_at}
use Rattle.packed_core.specs.Words.{joined_words}
use Rattle.packed_core.proofs.index.find_among.Given as goal

abbrev pub invariant-loop-n : goal.invariant-loop-n
invariant-loop-n l = (i : ℕ) → i < l.n → row_at l.rows i ≡ joined_words l.row l.mask → ⊥
