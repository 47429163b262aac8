-- Numbers in lists, none of which stands twice.
use Rattle.std.proofs.Common.{◌≡◌, ◌≢◌, inl, inr, ℕ, ◌+◌, ◌≤◌, Bool, true, false, not, ◌||◌, ◌==◌, List, [], ◌∷◌, ◌++◌, length, arith, ap, ◌∙◌, sym, refl}
use Rattle.std.proofs.Common.{subst}
use Rattle.std.specs.List.{AllByRecursion, IsDistinct, list_any}
use Rattle.std.proofs.lemmas.Map.Steps.{length-le_from_distinct_below}
use Rattle.std.specs.Prelude.{All}
use Rattle.std.proofs.lemmas.Bool.{and_from, and_parts, both_ways, eq-eqb, eqb-false, eqb-true, ne_eqb, not-true, or_cases, or_left, or_right}
use Rattle.std.proofs.lemmas.List.Elements.{All-head, All-tail}
use Rattle.cb_chain.specs.Taking.{is_among}
use Rattle.plain.specs.Lists.{are_different}

pub true_not_false : true ≡ false → ⊥
true_not_false e = cc

or_none : (x y : Bool) → (x || y) ≡ false → (x ≡ false) × (y ≡ false)
or_none true y h = absurd (true_not_false h)
or_none false y h = (refl, h)

from_none : (x y : Bool) → x ≡ false → y ≡ false → (x || y) ≡ false
from_none x y a b = ap (λ z. z || y) a ∙ b

pub among_head : (n : ℕ) (xs : List ℕ) → is_among n (n ∷ xs) ≡ true
among_head n xs = or_left (n == n) (is_among n xs) (eq-eqb n n refl)

pub among_tail : (n m : ℕ) (xs : List ℕ) → is_among n xs ≡ true → is_among n (m ∷ xs) ≡ true
among_tail n m xs h = or_right (m == n) (is_among n xs) h

pub not_head : (n m : ℕ) (xs : List ℕ) → is_among n (m ∷ xs) ≡ false → n ≢ m
not_head n m xs h = let parts = or_none (m == n) (is_among n xs) h in λ e. eqb-false m n parts.0 (sym e)

pub not_tail : (n m : ℕ) (xs : List ℕ) → is_among n (m ∷ xs) ≡ false → is_among n xs ≡ false
not_tail n m xs h = (or_none (m == n) (is_among n xs) h).1

pub not_cons : (n m : ℕ) (xs : List ℕ) → n ≢ m → is_among n xs ≡ false → is_among n (m ∷ xs) ≡ false
not_cons n m xs other h = from_none (m == n) (is_among n xs) (ne_eqb m n (λ e. other (sym e))) h

pub among_left : (n : ℕ) (xs ys : List ℕ) → is_among n xs ≡ true → is_among n (xs ++ ys) ≡ true
among_left n [] ys h = absurd (true_not_false (sym h))
among_left n (x ∷ xs) ys h =
    elim (or_cases (x == n) (is_among n xs) h) [
      | inl is ↦ or_left (x == n) (is_among n (xs ++ ys)) is
      | inr behind ↦ or_right (x == n) (is_among n (xs ++ ys)) (among_left n xs ys behind)
    ]

pub among_right : (n : ℕ) (xs ys : List ℕ) → is_among n ys ≡ true → is_among n (xs ++ ys) ≡ true
among_right n [] ys h = h
among_right n (x ∷ xs) ys h = or_right (x == n) (is_among n (xs ++ ys)) (among_right n xs ys h)

pub not_left : (n : ℕ) (xs ys : List ℕ) → is_among n (xs ++ ys) ≡ false → is_among n xs ≡ false
not_left n [] ys h = refl
not_left n (x ∷ xs) ys h =
    let parts = or_none (x == n) (is_among n (xs ++ ys)) h in from_none (x == n) (is_among n xs) parts.0 (not_left n xs ys parts.1)

pub not_right : (n : ℕ) (xs ys : List ℕ) → is_among n (xs ++ ys) ≡ false → is_among n ys ≡ false
not_right n [] ys h = h
not_right n (x ∷ xs) ys h = not_right n xs ys ((or_none (x == n) (is_among n (xs ++ ys)) h).1)

pub not_both : (n : ℕ) (xs ys : List ℕ) → is_among n xs ≡ false → is_among n ys ≡ false → is_among n (xs ++ ys) ≡ false
not_both n [] ys a b = b
not_both n (x ∷ xs) ys a b =
    let parts = or_none (x == n) (is_among n xs) a in from_none (x == n) (is_among n (xs ++ ys)) parts.0 (not_both n xs ys parts.1 b)

pub not_same : (n m : ℕ) (xs : List ℕ) → is_among n xs ≡ true → is_among m xs ≡ false → n ≢ m
not_same n m xs a b e = both_ways (is_among m xs) b (sym (ap (λ k. is_among k xs) e) ∙ a)

different_parts : (x : ℕ) (xs : List ℕ) → are_different (x ∷ xs) ≡ true → (is_among x xs ≡ false) × (are_different xs ≡ true)
different_parts x xs h = let parts = and_parts (not (is_among x xs)) (are_different xs) h in (not-true (is_among x xs) parts.0, parts.1)

pub different_head : (x : ℕ) (xs : List ℕ) → are_different (x ∷ xs) ≡ true → is_among x xs ≡ false
different_head x xs h = (different_parts x xs h).0

pub different_right : (xs ys : List ℕ) → are_different (xs ++ ys) ≡ true → are_different ys ≡ true
different_right [] ys h = h
different_right (x ∷ xs) ys h = different_right xs ys (different_parts x (xs ++ ys) h).1

pub different_left : (xs ys : List ℕ) → are_different (xs ++ ys) ≡ true → are_different xs ≡ true
different_left [] ys h = refl
different_left (x ∷ xs) ys h =
    let parts = different_parts x (xs ++ ys) h in
    and_from (not (is_among x xs)) (are_different xs) (ap not (not_left x xs ys parts.0)) (different_left xs ys parts.1)

-- what stands in the first part does not in the second
pub disjoint : (n : ℕ) (xs ys : List ℕ) → are_different (xs ++ ys) ≡ true → is_among n xs ≡ true → is_among n ys ≡ false
disjoint n [] ys h a = absurd (true_not_false (sym a))
disjoint n (x ∷ xs) ys h a =
    let parts = different_parts x (xs ++ ys) h in
    elim (or_cases (x == n) (is_among n xs) a) [
      | inl is ↦ not_right n xs ys (ap (λ k. is_among k (xs ++ ys)) (sym (eqb-true x n is)) ∙ parts.0)
      | inr behind ↦ disjoint n xs ys parts.1 behind
    ]

pub all_right : (P : ℕ → Type 0) (xs ys : List ℕ) → All P (xs ++ ys) → All P ys
all_right P [] ys h = h
all_right P (x ∷ xs) ys h = all_right P xs ys (All-tail P x (xs ++ ys) h)

-- of numbers from 1 on none of which stands twice there are at most as many as the greatest
each_other : (x : ℕ) (xs : List ℕ) → is_among x xs ≡ false → AllByRecursion (λ y. (x == y) ≡ false) xs
each_other x [] h = tt
each_other x (y ∷ xs) h = (ne_eqb x y (not_head x y xs h), each_other x xs (not_tail x y xs h))

distinct_from : (xs : List ℕ) → are_different xs ≡ true → IsDistinct ◌==◌ xs
unfolding IsDistinct
distinct_from [] h = tt
distinct_from (x ∷ xs) h = let parts = different_parts x xs h in (each_other x xs parts.0, distinct_from xs parts.1)

each_below : (xs : List ℕ) (most q : ℕ) → All (λ n. (1 ≤ n) × (n ≤ most)) xs → list_any (λ m. q == m) xs ≡ true → (1 ≤ q) × (q ≤ most)
each_below [] most q h a = absurd (true_not_false (sym a))
each_below (x ∷ xs) most q h a =
    elim (or_cases (q == x) (list_any (λ m. q == m) xs) a) [
      | inl is ↦ (let P : ℕ → Type 0 = λ n. (1 ≤ n) × (n ≤ most) in subst P (sym (eqb-true q x is)) (All-head P x xs h))
      | inr behind ↦ each_below xs most q (All-tail (λ n. (1 ≤ n) × (n ≤ most)) x xs h) behind
    ]

no_zero : (xs : List ℕ) (most : ℕ) → All (λ n. (1 ≤ n) × (n ≤ most)) xs → is_among 0 xs ≡ false
no_zero [] most h = refl
no_zero (x ∷ xs) most h =
    let P : ℕ → Type 0 = λ n. (1 ≤ n) × (n ≤ most) in
    let first = All-head P x xs h in
    not_cons 0 x xs (λ e. let low = first.0 in absurd (omega (arith, low, e))) (no_zero xs most (All-tail P x xs h))

pub at_most : (xs : List ℕ) (most : ℕ) → are_different xs ≡ true → All (λ n. (1 ≤ n) × (n ≤ most)) xs → length xs ≤ most
at_most xs most h a =
    let other : are_different (0 ∷ xs) ≡ true = and_from (not (is_among 0 xs)) (are_different xs) (ap not (no_zero xs most a)) h in
    let count : length (0 ∷ xs) ≤ most + 1 =
    length-le_from_distinct_below (0 ∷ xs) (most + 1) (distinct_from (0 ∷ xs) other) (λ q in_it.
    elim (or_cases (q == 0) (list_any (λ m. q == m) xs) in_it) [
      | inl is ↦ (let zero_is = eqb-true q 0 is in omega (arith, zero_is))
      | inr behind ↦ (let both = each_below xs most q a behind in let high = both.1 in omega (arith, high))
    ]) in
    omega (arith, count)
