-- Names of which no two are the same, as a test has it.
use Rattle.std.proofs.Common.{◌≡◌, ◌≢◌, ◌∙◌, ◌||◌, ℕ, Bool, true, false, not, List, [], ◌∷◌, All, refl, sym, ap}
use Rattle.std.specs.List.{list_any}
use Rattle.std.specs.Str.{bytes_eq}
use Rattle.std.proofs.lemmas.Bool.{and_from, and_parts, false_from_ne_true, or_parts}
use Rattle.std.proofs.lemmas.List.Elements.{All-cons, All-head, All-nil, All-tail}
use Rattle.std.proofs.lemmas.Slice.Eq.{bytes_eq-Decides}
use Rattle.plain.specs.Lists.{Differ, all_different}

clash : false ≡ true → ⊥
clash e = absurd cc

turned : (b : Bool) → not b ≡ true → b ≡ false
turned true h = absurd cc
turned false h = refl

none_equal : (x : List ℕ) (ys : List (List ℕ)) → list_any (bytes_eq x) ys ≡ false → All (λ y. x ≢ y) ys
none_equal x [] h = All-nil (λ (y : List ℕ). x ≢ y)
none_equal x (y ∷ ys) h =
    let both = or_parts (bytes_eq x y) (list_any (bytes_eq x) ys) h in
    All-cons (λ (z : List ℕ). x ≢ z) y ys (λ e. clash (sym both.0 ∙ (bytes_eq-Decides x y).1 e)) (none_equal x ys both.1)

pub differ_all : (xs : List (List ℕ)) → all_different bytes_eq xs ≡ true → Differ xs
differ_all [] h = tt
differ_all (x ∷ xs) h =
    let both = and_parts (not (list_any (bytes_eq x) xs)) (all_different bytes_eq xs) h in
    (none_equal x xs (turned (list_any (bytes_eq x) xs) both.0), differ_all xs both.1)

none_found : (x : List ℕ) (ys : List (List ℕ)) → All (λ y. x ≢ y) ys → list_any (bytes_eq x) ys ≡ false
none_found x [] all = refl
none_found x (y ∷ ys) all =
    let other : bytes_eq x y ≡ false = false_from_ne_true (bytes_eq x y) (λ e. All-head (λ (z : List ℕ). x ≢ z) y ys all ((bytes_eq-Decides x y).0 e)) in
    λ i. other i || none_found x ys (All-tail (λ (z : List ℕ). x ≢ z) y ys all) i

pub all_differ : (xs : List (List ℕ)) → Differ xs → all_different bytes_eq xs ≡ true
all_differ [] d = refl
all_differ (x ∷ xs) d = and_from (not (list_any (bytes_eq x) xs)) (all_different bytes_eq xs) (ap not (none_found x xs d.0)) (all_differ xs d.1)
