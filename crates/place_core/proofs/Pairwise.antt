-- The first items of a list changed, one after the other.
use Rattle.std.proofs.Common.{◌≡◌, ℕ, zero, suc, ◌+◌, ◌<◌, ◌≤◌, List, [], ◌∷◌, length, get_or, slice_set, refl, subst, arith}
use Rattle.std.specs.Prelude.{⊤}
use Rattle.std.specs.List.{AllZip}

module _ {X : Type 0} (R : X → X → Type 0) where
  -- the first n items of two lists are related, and those behind are the same
  abbrev pub ChangedUpTo : ℕ → List X → List X → Type 0
  ChangedUpTo n [] [] = ⊤
  ChangedUpTo n [] (y ∷ ys) = ⊥
  ChangedUpTo n (x ∷ xs) [] = ⊥
  ChangedUpTo zero (x ∷ xs) (y ∷ ys) = (y ≡ x) × ChangedUpTo zero xs ys
  ChangedUpTo (suc n) (x ∷ xs) (y ∷ ys) = R x y × ChangedUpTo n xs ys

  pub none_changed : (xs : List X) → ChangedUpTo 0 xs xs
  none_changed [] = tt
  none_changed (x ∷ xs) = (refl, none_changed xs)

  more : (i : ℕ) (xs ys : List X) (d y : X) → i < length xs → ChangedUpTo i xs ys → R (get_or ys i d) y → ChangedUpTo (suc i) xs (slice_set ys i y)
  more i [] ys d y l h r = absurd (omega (arith, l))
  more i (x ∷ xs) [] d y l h r = absurd (nothing i h)
    where
      nothing : (i : ℕ) → ChangedUpTo i (x ∷ xs) [] → ⊥
      nothing zero h = h
      nothing (suc i) h = h
  more zero (x ∷ xs) (z ∷ ys) d y l h r = (subst (λ q. R q y) h.0 r, h.1)
  more (suc i) (x ∷ xs) (z ∷ ys) d y l h r = (h.0, more i xs ys d y (omega (arith, l)) h.1 r)

  pub one_more_changed : (i : ℕ) (xs ys : List X) (d y : X) → i < length xs → ChangedUpTo i xs ys → R (get_or ys i d) y →
      ChangedUpTo (i + 1) xs (slice_set ys i y)
  one_more_changed i xs ys d y l h r = subst (λ n. ChangedUpTo n xs (slice_set ys i y)) (next i) (more i xs ys d y l h r)
    where
      next : (n : ℕ) → suc n ≡ n + 1
      next n = omega arith

  pub all_changed : (n : ℕ) (xs ys : List X) → length xs ≤ n → ChangedUpTo n xs ys → AllZip R xs ys
  all_changed n [] [] l h = tt
  all_changed n [] (y ∷ ys) l h = by n h
    where
      by : (n : ℕ) → ChangedUpTo n [] (y ∷ ys) → ⊥
      by zero h = h
      by (suc n) h = h
  all_changed n (x ∷ xs) [] l h = by n h
    where
      by : (n : ℕ) → ChangedUpTo n (x ∷ xs) [] → ⊥
      by zero h = h
      by (suc n) h = h
  all_changed zero (x ∷ xs) (y ∷ ys) l h = absurd (omega (arith, l))
  all_changed (suc n) (x ∷ xs) (y ∷ ys) l h = (h.0, all_changed n xs ys (omega (arith, l)) h.1)
