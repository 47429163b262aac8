-- The order of two texts, by the first bytes that differ, and else by their lengths.
use Rattle.std.proofs.Common.{◌≡◌, ◌≢◌, ℕ, zero, suc, ◌<◌, List, [], ◌∷◌, length, get_or, Ordering, Less, Equal, Greater, ap, ◌∙◌, sym, refl, arith}
use Rattle.std.specs.Ordering.{MatchOrdering, nat_cmp, ordering_then}
use Rattle.std.specs.Cmp.Lexicographic.{slice_cmp}
use Rattle.std.proofs.lemmas.Cmp.{ranked}

-- the answer of a comparison, by what holds of the two
pub from_rank : (x y : ℕ) (o : Ordering) → MatchOrdering o (x < y) (x ≡ y) (y < x) → nat_cmp x y ≡ o
from_rank x y o m = by (nat_cmp x y) o (ranked x y (nat_cmp x y) refl) m
  where
    by : (p o : Ordering) → MatchOrdering p (x < y) (x ≡ y) (y < x) → MatchOrdering o (x < y) (x ≡ y) (y < x) → p ≡ o
    by Less Less h k = refl
    by Less Equal h k = absurd (omega (arith, h, k))
    by Less Greater h k = absurd (omega (arith, h, k))
    by Equal Less h k = absurd (omega (arith, h, k))
    by Equal Equal h k = refl
    by Equal Greater h k = absurd (omega (arith, h, k))
    by Greater Less h k = absurd (omega (arith, h, k))
    by Greater Equal h k = absurd (omega (arith, h, k))
    by Greater Greater h k = refl

pub next : (a b : ℕ) → nat_cmp (suc a) (suc b) ≡ nat_cmp a b
next a b = by (nat_cmp a b) (ranked a b (nat_cmp a b) refl)
  where
    by : (o : Ordering) → MatchOrdering o (a < b) (a ≡ b) (b < a) → nat_cmp (suc a) (suc b) ≡ o
    by Less h = from_rank (suc a) (suc b) Less (omega (arith, h))
    by Equal h = from_rank (suc a) (suc b) Equal (ap suc h)
    by Greater h = from_rank (suc a) (suc b) Greater (omega (arith, h))

pub decided : (x y : ℕ) (rest : Ordering) → x ≢ y → ordering_then (nat_cmp x y) rest ≡ nat_cmp x y
decided x y rest apart = by (nat_cmp x y) (ranked x y (nat_cmp x y) refl)
  where
    by : (o : Ordering) → MatchOrdering o (x < y) (x ≡ y) (y < x) → ordering_then o rest ≡ o
    by Less h = refl
    by Equal h = absurd (apart h)
    by Greater h = refl

pub passed : (x y : ℕ) (xs ys : List ℕ) → x ≡ y → slice_cmp nat_cmp (x ∷ xs) (y ∷ ys) ≡ slice_cmp nat_cmp xs ys
passed x y xs ys e = ap (λ o. ordering_then o (slice_cmp nat_cmp xs ys)) (from_rank x y Equal e)

-- where all bytes that both have are equal, the lengths decide
pub alike : (xs ys : List ℕ) → ((j : ℕ) → j < length xs → j < length ys → get_or xs j 0 ≡ get_or ys j 0) → slice_cmp nat_cmp xs ys ≡ nat_cmp (length xs) (length ys)
alike [] [] h = sym (from_rank 0 0 Equal refl)
alike [] (y ∷ ys) h = sym (from_rank 0 (suc (length ys)) Less (omega arith))
alike (x ∷ xs) [] h = sym (from_rank (suc (length xs)) 0 Greater (omega arith))
alike (x ∷ xs) (y ∷ ys) h =
    passed x y xs ys (h 0 (omega arith) (omega arith))
    ∙ alike xs ys (λ j k l. h (suc j) (omega (arith, k)) (omega (arith, l))) ∙ sym (next (length xs) (length ys))

-- else the first that differ do
pub differ : (xs ys : List ℕ) (i : ℕ) → i < length xs → i < length ys → ((j : ℕ) → j < i → get_or xs j 0 ≡ get_or ys j 0) → get_or xs i 0 ≢ get_or ys i 0 →
    slice_cmp nat_cmp xs ys ≡ nat_cmp (get_or xs i 0) (get_or ys i 0)
differ [] ys i h k before apart = absurd (omega (arith, h))
differ (x ∷ xs) [] i h k before apart = absurd (omega (arith, k))
differ (x ∷ xs) (y ∷ ys) zero h k before apart = decided x y (slice_cmp nat_cmp xs ys) apart
differ (x ∷ xs) (y ∷ ys) (suc i) h k before apart =
    passed x y xs ys (before 0 (omega arith)) ∙ differ xs ys i (omega (arith, h)) (omega (arith, k)) (λ j l. before (suc j) (omega (arith, l))) apart
