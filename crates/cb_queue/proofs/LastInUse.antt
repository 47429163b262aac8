-- The last record that is in use.
use Rattle.std.proofs.Common.{◌≡◌, ℕ, zero, suc, ◌≤◌, Bool, true, false, List, [], ◌∷◌, ◌++◌, Option, None, Some, get_or, length, replicate, arith, ap, refl}
use Rattle.std.specs.Prelude.{is_some}
use Rattle.cb_queue.specs.RecordQueues.{last_behind, last_in_use}

behind_most : (n k : ℕ) (used : Bool) → n ≤ k → last_behind n used ≤ suc k
behind_most zero k true h = omega arith
behind_most zero k false h = omega arith
behind_most (suc n) k used h = omega (arith, h)

-- it is one of them
pub last_within : (rs : List (Option (List ℕ))) → last_in_use rs ≤ length rs
last_within [] = omega arith
last_within (r ∷ rs) = behind_most (last_in_use rs) (length rs) (is_some r) (last_within rs)

none_last : (k : ℕ) → last_in_use (replicate k None) ≡ 0
none_last zero = refl
none_last (suc k) = ap (λ n. last_behind n false) (none_last k)

-- none is among those that are behind them
pub last_known : (rs : List (Option (List ℕ))) (k : ℕ) → last_in_use (rs ++ replicate k None) ≤ length rs
last_known [] k = let none = none_last k in omega (arith, none)
last_known (r ∷ rs) k = behind_most (last_in_use (rs ++ replicate k None)) (length rs) (is_some r) (last_known rs k)

first_used : (n : ℕ) (used : Bool) → used ≡ true → 1 ≤ last_behind n used
first_used zero true h = omega arith
first_used zero false h = absurd cc
first_used (suc n) used h = omega arith

later_used : (n k : ℕ) (used : Bool) → suc k ≤ n → suc (suc k) ≤ last_behind n used
later_used zero k used h = absurd (omega (arith, h))
later_used (suc n) k used h = omega (arith, h)

-- each that is in use is not behind it
pub in_use_within : (rs : List (Option (List ℕ))) (k : ℕ) (r : List ℕ) → get_or rs k None ≡ Some r → suc k ≤ last_in_use rs
in_use_within [] k r h = absurd cc
in_use_within (x ∷ rs) zero r h = first_used (last_in_use rs) (is_some x) (ap is_some h)
in_use_within (x ∷ rs) (suc k) r h = later_used (last_in_use rs) k (is_some x) (in_use_within rs k r h)
