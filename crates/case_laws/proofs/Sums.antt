-- Sums over lists.
use Rattle.std.proofs.Common.{◌≡◌, ◌≤◌, ◌+◌, ℕ, Bool, true, false, cond, List, [], ◌∷◌, arith}
use Rattle.std.specs.Prelude.{filter, sum_by}
use Rattle.std.proofs.lemmas.List.Sums.{sum_by-cons}

-- by the first of two sums of a first and a rest
pub with_first : (n m a b c : ℕ) → n ≡ a + b → m ≡ a + c → b ≤ c → n ≤ m
with_first n m a b c e f h = omega (arith, e, f, h)

pub without_first : (m a b c : ℕ) → m ≡ a + c → b ≤ c → b ≤ m
without_first m a b c f h = omega (arith, f, h)

-- what passes a test sums to no more
pub sum_filter : {X : Type 0} (f : X → ℕ) (p : X → Bool) (xs : List X) → sum_by f (filter p xs) ≤ sum_by f xs
sum_filter f p [] = omega arith
sum_filter f p (x ∷ xs) = by_test (p x) (sum_filter f p xs)
  where
    by_test : (b : Bool) → sum_by f (filter p xs) ≤ sum_by f xs → sum_by f (cond b (x ∷ filter p xs) (filter p xs)) ≤ sum_by f (x ∷ xs)
    by_test true h =
        with_first (sum_by f (x ∷ filter p xs)) (sum_by f (x ∷ xs)) (f x) (sum_by f (filter p xs)) (sum_by f xs) (sum_by-cons f x (filter p xs))
        (sum_by-cons f x xs) h
    by_test false h = without_first (sum_by f (x ∷ xs)) (f x) (sum_by f (filter p xs)) (sum_by f xs) (sum_by-cons f x xs) h
