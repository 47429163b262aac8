-- Blocks among the rows of a text.
use Rattle.std.proofs.Common.{◌≡◌, ℕ, suc, ◌+◌, ◌-◌, ◌<◌, Bool, true, false, List, [], ◌∷◌, length, take, drop, position, Some, refl, arith, add-zero}
use Rattle.std.specs.List.{position_or_len}
use Rattle.session_text.specs.declared.statement.Block.{Block}
use Rattle.session_text.specs.declared.statement.Ending.{Ending}
use Rattle.session_text.specs.Statements.{behind_end, block_to, is_end, statement_at, statements_from}
use Rattle.session_text.specs.Blocks.{block_says}
use Rattle.session_text.proofs.Places.{first_at}

behind_row : (ending : Ending) (n : ℕ) (row : List ℕ) (rows : List (List ℕ)) (k : ℕ) (b : Bool) → is_end row ≡ b → position_or_len is_end (row ∷ rows) ≡ k → k < length (row ∷ rows)
    → (position_or_len is_end rows ≡ k - 1 → k - 1 < length rows → behind_end ending (n + 1) rows ≡ statements_from ending (n + 1 + (k - 1) + 1) (drop (k - 1 + 1) rows))
    → behind_end ending n (row ∷ rows) ≡ statements_from ending (n + k + 1) (drop (k + 1) (row ∷ rows))
behind_row ending n row rows k true is at lt more =
    let here : 0 ≡ k = rw is at at in
    rw (is, ← here, add-zero)
behind_row ending n row rows k false is at lt more =
    let next : 1 + position_or_len is_end rows ≡ k = rw is at at in
    let line : n + k + 1 ≡ n + 1 + (k - 1) + 1 = omega arith in
    let place : k + 1 ≡ suc (k - 1 + 1) = omega arith in
    rw (is, line, place) (more (omega arith) (omega arith))

-- behind an END at this place the text goes on
behind_end-at : (ending : Ending) (n : ℕ) (rows : List (List ℕ)) (k : ℕ) → position_or_len is_end rows ≡ k → k < length rows → behind_end ending n rows ≡ statements_from ending (n + k + 1) (drop (k + 1) rows)
behind_end-at ending n [] k at lt = absurd (omega arith)
behind_end-at ending n (row ∷ rows) k at lt = behind_row ending n row rows k (is_end row) refl at lt (behind_end-at ending (n + 1) rows (k - 1))

-- a block that a row ends
pub block_ended : (ending : Ending) (n : ℕ) (block : Block) (rows : List (List ℕ)) (k : ℕ) → position is_end rows ≡ Some k →
    block_to (position is_end rows) ending n block rows (behind_end ending (n + 1) rows) ≡ statement_at n (block_says block (take k rows)) ∷ statements_from ending (n + 1 + k + 1) (drop (k + 1) rows)
block_ended ending n block rows k h =
    let at = first_at is_end rows k h in
    rw (h, behind_end-at ending (n + 1) rows k at.0 (omega (arith, at.0, at.1)))
