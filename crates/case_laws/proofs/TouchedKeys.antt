-- Keys of all jobs, each once, and what sets under them sum to.
use Rattle.std.proofs.Common.{◌≡◌, ◌≤◌, ◌+◌, ◌==◌, ◌⊎◌, inl, inr, ℕ, Bool, true, false, not, cond, List, [], ◌∷◌, Option, Some, None, arith, refl, sym, ap, ◌∙◌, subst}
use Rattle.std.specs.Prelude.{◌&&◌, sum_by}
use Rattle.std.specs.Str.{bytes_eq}
use Rattle.std.proofs.lemmas.Bool.{and_from, and_parts, both_ways, eq-eqb, false_from_ne_true, or_cases, or_left, or_parts, or_right}
use Rattle.std.proofs.lemmas.List.Sums.{sum_by-cons, sum_by-le-sum_by}
use Rattle.std.proofs.lemmas.Slice.Eq.{bytes_eq-Decides}
use Rattle.vtoc_core.specs.declared.entry.SetKey.{SetKey}
use Rattle.vtoc_core.specs.declared.entry.SetKey.TheVariants.{Named, Temporary, Unnamed}
use Rattle.vtoc_core.specs.Entries.{same_key}
use Rattle.vtoc_core.proofs.PlaceLemmas.{keys_same}
use Rattle.world_meaning.specs.Tracks.{is_touched}
use Rattle.plain.specs.Lists.{all_different}

pub itself : (k : SetKey) → same_key k k ≡ true
itself (Named a) = (bytes_eq-Decides a a).1 refl
itself (Temporary i a) = and_from (i == i) (bytes_eq a a) (eq-eqb i i refl) ((bytes_eq-Decides a a).1 refl)
itself (Unnamed i s d) = and_from (i == i && s == s) (d == d) (and_from (i == i) (s == s) (eq-eqb i i refl) (eq-eqb s s refl)) (eq-eqb d d refl)

abbrev joined : Bool → SetKey → List SetKey → List SetKey
joined true k keys = keys
joined false k keys = k ∷ keys

-- the same keys, each once
abbrev pub distinct : List SetKey → List SetKey
distinct [] = []
distinct (k ∷ keys) = joined (is_touched (distinct keys) k) k (distinct keys)

pub distinct_once : (keys : List SetKey) → all_different same_key (distinct keys) ≡ true
distinct_once [] = refl
distinct_once (k ∷ keys) = by_test (is_touched (distinct keys) k) refl (distinct_once keys)
  where
    by_test : (b : Bool) → is_touched (distinct keys) k ≡ b → all_different same_key (distinct keys) ≡ true → all_different same_key (joined b k (distinct keys)) ≡ true
    by_test true e h = h
    by_test false e h = and_from (not (is_touched (distinct keys) k)) (all_different same_key (distinct keys)) (ap not e) h

distinct_has : (keys : List SetKey) (x : SetKey) → is_touched keys x ≡ true → is_touched (distinct keys) x ≡ true
distinct_has [] x e = absurd cc
distinct_has (k ∷ keys) x e = by_test (is_touched (distinct keys) k) refl (or_cases (same_key x k) (is_touched keys x) e) (distinct_has keys x)
  where
    by_test : (b : Bool) → is_touched (distinct keys) k ≡ b → (same_key x k ≡ true) ⊎ (is_touched keys x ≡ true) →
        (is_touched keys x ≡ true → is_touched (distinct keys) x ≡ true) → is_touched (joined b k (distinct keys)) x ≡ true
    by_test true f (inl here) more = subst (λ (y : SetKey). is_touched (distinct keys) y ≡ true) (sym (keys_same x k here)) f
    by_test true f (inr there) more = more there
    by_test false f (inl here) more = or_left (same_key x k) (is_touched (distinct keys) x) here
    by_test false f (inr there) more = or_right (same_key x k) (is_touched (distinct keys) x) (more there)

pub distinct_all : (keys : List SetKey) (x : SetKey) → is_touched (distinct keys) x ≡ false → is_touched keys x ≡ false
distinct_all keys x out = false_from_ne_true (is_touched keys x) (λ there. both_ways (is_touched (distinct keys) x) out (distinct_has keys x there))

-- so many more under one key
abbrev pub gain : Option SetKey → ℕ → SetKey → ℕ
gain None n k = 0
gain (Some here) n k = cond (same_key here k) n 0

no_gain : (keys : List SetKey) (n : ℕ) → sum_by (gain None n) keys ≡ 0
no_gain [] n = refl
no_gain (k ∷ keys) n = sum_by-cons (gain None n) k keys ∙ ap (λ m. 0 + m) (no_gain keys n)

gain_elsewhere : (here : SetKey) (n : ℕ) (keys : List SetKey) → is_touched keys here ≡ false → sum_by (gain (Some here) n) keys ≡ 0
gain_elsewhere here n [] out = refl
gain_elsewhere here n (k ∷ keys) out =
    let p : (same_key here k ≡ false) × (is_touched keys here ≡ false) = or_parts (same_key here k) (is_touched keys here) out in
    sum_by-cons (gain (Some here) n) k keys ∙ (λ i. cond (p.0 i) n 0 + gain_elsewhere here n keys p.1 i)

one_gain : (here : SetKey) (n : ℕ) (keys : List SetKey) → all_different same_key keys ≡ true → sum_by (gain (Some here) n) keys ≤ n
one_gain here n [] once = omega arith
one_gain here n (k ∷ keys) once =
    let p : (not (is_touched keys k) ≡ true) × (all_different same_key keys ≡ true) = and_parts (not (is_touched keys k)) (all_different same_key keys) once in
    by_test (same_key here k) refl p.0 (one_gain here n keys p.1)
  where
    first_only : (m a b : ℕ) → m ≡ a + b → a ≡ n → b ≡ 0 → m ≤ n
    first_only m a b e f g = omega (arith, e, f, g)

    later_only : (m a b : ℕ) → m ≡ a + b → a ≡ 0 → b ≤ n → m ≤ n
    later_only m a b e f g = omega (arith, e, f, g)

    not_touched : (b : Bool) → not b ≡ true → b ≡ false
    not_touched true e = absurd cc
    not_touched false e = refl

    by_test : (b : Bool) → same_key here k ≡ b → not (is_touched keys k) ≡ true → sum_by (gain (Some here) n) keys ≤ n →
        sum_by (gain (Some here) n) (k ∷ keys) ≤ n
    by_test true e out later =
        first_only (sum_by (gain (Some here) n) (k ∷ keys)) (gain (Some here) n k) (sum_by (gain (Some here) n) keys) (sum_by-cons (gain (Some here) n) k keys)
        (ap (λ (b : Bool). cond b n 0) e)
        (gain_elsewhere here n keys (subst (λ (x : SetKey). is_touched keys x ≡ false) (sym (keys_same here k e)) (not_touched (is_touched keys k) out)))
    by_test false e out later =
        later_only (sum_by (gain (Some here) n) (k ∷ keys)) (gain (Some here) n k) (sum_by (gain (Some here) n) keys) (sum_by-cons (gain (Some here) n) k keys)
        (ap (λ (b : Bool). cond b n 0) e) later

pub gained_once : (here : Option SetKey) (n : ℕ) (keys : List SetKey) → all_different same_key keys ≡ true → sum_by (gain here n) keys ≤ n
gained_once None n keys once = let none : sum_by (gain None n) keys ≡ 0 = no_gain keys n in omega (arith, none)
gained_once (Some here) n keys once = one_gain here n keys once

sums : {X : Type 0} (f g : X → ℕ) (xs : List X) → sum_by (λ x. f x + g x) xs ≡ sum_by f xs + sum_by g xs
sums f g [] = refl
sums f g (x ∷ xs) =
    regroup (sum_by (λ x. f x + g x) (x ∷ xs)) (sum_by (λ x. f x + g x) xs) (sum_by f (x ∷ xs)) (sum_by g (x ∷ xs)) (f x) (g x) (sum_by f xs) (sum_by g xs)
    (sum_by-cons (λ x. f x + g x) x xs) (sum_by-cons f x xs) (sum_by-cons g x xs) (sums f g xs)
  where
    regroup : (all rest fs gs a b c d : ℕ) → all ≡ (a + b) + rest → fs ≡ a + c → gs ≡ b + d → rest ≡ c + d → all ≡ fs + gs
    regroup all rest fs gs a b c d e f g h = omega (arith, e, f, g, h)

within : (all few more n : ℕ) (whole : ℕ) → all ≤ whole → whole ≡ few + more → more ≤ n → all ≤ few + n
within all few more n whole e f g = omega (arith, e, f, g)

-- sums of which each term gains nothing, but for one that gains so many
pub sum_gains : (f g : SetKey → ℕ) (here : Option SetKey) (n : ℕ) (keys : List SetKey) → all_different same_key keys ≡ true →
    ((k : SetKey) → f k ≤ g k + gain here n k) → sum_by f keys ≤ sum_by g keys + n
sum_gains f g here n keys once each =
    within (sum_by f keys) (sum_by g keys) (sum_by (gain here n) keys) n (sum_by (λ k. g k + gain here n k) keys)
    (sum_by-le-sum_by f (λ k. g k + gain here n k) keys each) (sums g (gain here n) keys) (gained_once here n keys once)
