-- Where a list is split at its first of a kind, and where a number stands.
use Rattle.std.proofs.Common.{◌≡◌, ◌≢◌, ◌++◌, ℕ, zero, suc, List, [], ◌∷◌, map, Some, All, refl, sym, ap, ◌∙◌, subst}
use Rattle.std.specs.Prelude.{slice_get}
use Rattle.std.proofs.lemmas.List.Elements.{All-head, All-tail}
use Rattle.plain.specs.Lists.{Differ}

module _ {X : Type 0} (No Yes : X → Type 0) (clash : (x : X) → No x → Yes x → ⊥) where
  -- two splits of a list at the first that is so are one
  pub one_split : (before other after others : List X) (x y : X) → before ++ x ∷ after ≡ other ++ y ∷ others → All No before → All No other → Yes x → Yes y →
      (before ≡ other) × (x ≡ y) × (after ≡ others)
  one_split [] [] after others x y e all every p q = (refl, cc, cc)
  one_split [] (z ∷ zs) after others x y e all every p q = let is : x ≡ z = cc in absurd (clash z (All-head No z zs every) (subst Yes is p))
  one_split (z ∷ zs) [] after others x y e all every p q = let is : y ≡ z = cc in absurd (clash z (All-head No z zs all) (subst Yes is q))
  one_split (z ∷ zs) (w ∷ ws) after others x y e all every p q =
      let first : z ≡ w = cc in
      let rest : zs ++ x ∷ after ≡ ws ++ y ∷ others = cc in
      let one = one_split zs ws after others x y rest (All-tail No z zs all) (All-tail No w ws every) p q in
      ((λ i. first i ∷ one.0 i), one.1, one.2)

  -- where none is so, none is there
  pub none_split : (xs before after : List X) (x : X) → xs ≡ before ++ x ∷ after → All No xs → Yes x → ⊥
  none_split xs before after x stands all is = within before (subst (All No) stands all)
    where
      within : (front : List X) → All No (front ++ x ∷ after) → ⊥
      within [] each = clash x (All-head No x after each) is
      within (z ∷ zs) each = within zs (All-tail No z (zs ++ x ∷ after) each)

-- what holds of all holds of the one at a place
pub holds_at : {X : Type 0} (P : X → Type 0) (xs : List X) (place : ℕ) (x : X) → All P xs → slice_get xs place ≡ Some x → P x
holds_at P [] place x all e = absurd cc
holds_at P (y ∷ ys) zero x all e = let is : y ≡ x = cc in subst P is (All-head P y ys all)
holds_at P (y ∷ ys) (suc place) x all e = holds_at P ys place x (All-tail P y ys all) e

-- none of these has the value
apart : {X : Type 0} (f : X → ℕ) (n : ℕ) (xs : List X) (place : ℕ) (x : X) → All (λ m. n ≢ m) (map f xs) → slice_get xs place ≡ Some x → n ≡ f x → ⊥
apart f n [] place x all e same = absurd cc
apart f n (y ∷ ys) zero x all e same = let is : x ≡ y = cc in All-head (λ m. n ≢ m) (f y) (map f ys) all (same ∙ ap f is)
apart f n (y ∷ ys) (suc place) x all e same = apart f n ys place x (All-tail (λ m. n ≢ m) (f y) (map f ys) all) e same

-- a value that each has on its own is at one place
pub one_place : {X : Type 0} (f : X → ℕ) (xs : List X) (place other : ℕ) (x y : X) → Differ (map f xs) → slice_get xs place ≡ Some x →
    slice_get xs other ≡ Some y → f x ≡ f y → other ≡ place
one_place f [] place other x y differ e g same = absurd cc
one_place f (z ∷ zs) zero zero x y differ e g same = refl
one_place f (z ∷ zs) zero (suc other) x y differ e g same =
    let is : z ≡ x = cc in absurd (apart f (f z) zs other y differ.0 g (ap f is ∙ same))
one_place f (z ∷ zs) (suc place) zero x y differ e g same =
    let is : z ≡ y = cc in absurd (apart f (f z) zs place x differ.0 e (ap f is ∙ sym same))
one_place f (z ∷ zs) (suc place) (suc other) x y differ e g same = ap suc (one_place f zs place other x y differ.1 e g same)
