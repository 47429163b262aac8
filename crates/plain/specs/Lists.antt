-- Lists whose elements differ, and the numbers in their order.
use Rattle.std.specs.Prelude.{◌≢◌, ℕ, zero, ◌+◌, ◌==◌, ◌&&◌, not, Bool, true, List, [], ◌∷◌, All, suc}
use Rattle.std.specs.List.{list_any}

-- no two elements are equal
abbrev pub Differ : {X : Type 0} → List X → Type 0
Differ [] = Unit {0}
Differ (x ∷ xs) = All (λ y. x ≢ y) xs × Differ xs

-- no two are the same, as this test has it
abbrev pub all_different : {X : Type 0} → (X → X → Bool) → List X → Bool
all_different same [] = true
all_different same (x ∷ xs) = not (list_any (same x) xs) && all_different same xs

-- of numbers
abbrev pub are_different : List ℕ → Bool
are_different numbers = all_different (λ n m. m == n) numbers

-- the numbers from one on
abbrev pub numbers_from : ℕ → ℕ → List ℕ
numbers_from n zero = []
numbers_from n (suc count) = n ∷ numbers_from (n + 1) count
