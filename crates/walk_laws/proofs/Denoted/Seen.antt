-- Records that are met one after the other, none of them twice.
use Rattle.std.proofs.Common.{◌≡◌, ◌==◌, ◌≤◌, ◌+◌, arith, ℕ, Bool, true, false, not, List, [], ◌∷◌, ◌++◌, length, refl, sym, subst, inl, inr}
use Rattle.std.specs.Prelude.{All}
use Rattle.std.specs.List.{AllByRecursion, IsDistinct, list_any}
use Rattle.std.proofs.lemmas.Bool.{and_parts, eqb-false, eqb-true, ne_eqb, not-true, or_cases, or_from, or_parts, true≢false}
use Rattle.std.proofs.lemmas.List.Elements.{All-head, All-tail}
use Rattle.std.proofs.lemmas.Map.Steps.{length-le_from_distinct_below}
use Rattle.plain.specs.Lists.{are_different}

abbrev pub is_among : ℕ → List ℕ → Bool
is_among n numbers = list_any (λ m. m == n) numbers

-- what was met before, and these behind it
abbrev pub met : List ℕ → List ℕ → List ℕ
met seen [] = seen
met seen (n ∷ numbers) = met (n ∷ seen) numbers

-- each is met for the first time
abbrev pub AreNew : List ℕ → List ℕ → Type 0
AreNew seen [] = Unit {0}
AreNew seen (n ∷ numbers) = (is_among n seen ≡ false) × AreNew (n ∷ seen) numbers

pub met_both : (seen xs ys : List ℕ) → met seen (xs ++ ys) ≡ met (met seen xs) ys
met_both seen [] ys = refl
met_both seen (x ∷ xs) ys = met_both (x ∷ seen) xs ys

pub new_front : (seen xs ys : List ℕ) → AreNew seen (xs ++ ys) → AreNew seen xs
new_front seen [] ys h = tt
new_front seen (x ∷ xs) ys h = (h.0, new_front (x ∷ seen) xs ys h.1)

pub new_behind : (seen xs ys : List ℕ) → AreNew seen (xs ++ ys) → AreNew (met seen xs) ys
new_behind seen [] ys h = h
new_behind seen (x ∷ xs) ys h = new_behind (x ∷ seen) xs ys h.1

-- numbers that are different are met once
abbrev Apart : List ℕ → List ℕ → Type 0
Apart seen [] = Unit {0}
Apart seen (n ∷ numbers) = (is_among n seen ≡ false) × Apart seen numbers

apart_more : (seen : List ℕ) (n : ℕ) (numbers : List ℕ) → Apart seen numbers → is_among n numbers ≡ false → Apart (n ∷ seen) numbers
apart_more seen n [] h e = tt
apart_more seen n (m ∷ numbers) h e =
    let parts = or_parts (m == n) (is_among n numbers) e in
    let other : (n == m) ≡ false = ne_eqb n m (λ same. eqb-false m n parts.0 (sym same)) in
    (or_from (n == m) (is_among m seen) other h.0, apart_more seen n numbers h.1 parts.1)

different_parts : (n : ℕ) (numbers : List ℕ) → are_different (n ∷ numbers) ≡ true → (is_among n numbers ≡ false) × (are_different numbers ≡ true)
different_parts n numbers h =
    let parts = and_parts (not (is_among n numbers)) (are_different numbers) h in (not-true (is_among n numbers) parts.0, parts.1)

new_if_apart : (seen numbers : List ℕ) → are_different numbers ≡ true → Apart seen numbers → AreNew seen numbers
new_if_apart seen [] h a = tt
new_if_apart seen (n ∷ numbers) h a =
    let parts = different_parts n numbers h in (a.0, new_if_apart (n ∷ seen) numbers parts.1 (apart_more seen n numbers a.1 parts.0))

apart_from_none : (numbers : List ℕ) → Apart [] numbers
apart_from_none [] = tt
apart_from_none (n ∷ numbers) = (refl, apart_from_none numbers)

pub are_new : (numbers : List ℕ) → are_different numbers ≡ true → AreNew [] numbers
are_new numbers h = new_if_apart [] numbers h (apart_from_none numbers)

-- of numbers up to a greatest none of which stands twice there are at most as many as those from 0 to it
not_head : (n m : ℕ) (xs : List ℕ) → is_among n (m ∷ xs) ≡ false → n ≡ m → ⊥
not_head n m xs h e = eqb-false m n (or_parts (m == n) (is_among n xs) h).0 (sym e)

each_other : (x : ℕ) (xs : List ℕ) → is_among x xs ≡ false → AllByRecursion (λ y. (x == y) ≡ false) xs
each_other x [] h = tt
each_other x (y ∷ xs) h = (ne_eqb x y (not_head x y xs h), each_other x xs (or_parts (y == x) (is_among x xs) h).1)

distinct_from : (xs : List ℕ) → are_different xs ≡ true → IsDistinct ◌==◌ xs
unfolding IsDistinct
distinct_from [] h = tt
distinct_from (x ∷ xs) h = let parts = different_parts x xs h in (each_other x xs parts.0, distinct_from xs parts.1)

not_above : (xs : List ℕ) (most q : ℕ) → All (λ n. n ≤ most) xs → list_any (λ m. q == m) xs ≡ true → q ≤ most
not_above [] most q h a = absurd (true≢false (sym a))
not_above (x ∷ xs) most q h a =
    elim (or_cases (q == x) (list_any (λ m. q == m) xs) a) [
      | inl is ↦ subst (λ n. n ≤ most) (sym (eqb-true q x is)) (All-head (λ n. n ≤ most) x xs h)
      | inr behind ↦ not_above xs most q (All-tail (λ n. n ≤ most) x xs h) behind
    ]

pub few_different : (xs : List ℕ) (most : ℕ) → are_different xs ≡ true → All (λ n. n ≤ most) xs → length xs ≤ most + 1
few_different xs most h a =
    length-le_from_distinct_below xs (most + 1) (distinct_from xs h) (λ q in_it. let high : q ≤ most = not_above xs most q a in_it in omega (arith, high))
