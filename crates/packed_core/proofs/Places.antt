-- Elements of a list by their places.
use Rattle.std.proofs.Common.{◌≡◌, ◌++◌, ◌∷◌, ◌∙◌, ◌<◌, ℕ, zero, suc, List, [], Some, length, refl, sym}
use Rattle.std.proofs.Common.{ap, arith, get_or, map}
use Rattle.std.specs.Prelude.{Contains, slice_get}
use Rattle.std.proofs.lemmas.Option.{same_Some}

pub got_below : {X : Type 0} (xs : List X) (i : ℕ) (x : X) → slice_get xs i ≡ Some x → i < length xs
got_below [] i x e = absurd cc
got_below (y ∷ xs) zero x e = omega arith
got_below (y ∷ xs) (suc i) x e = let h : i < length xs = got_below xs i x e in omega arith

pub got_there : {X : Type 0} (xs : List X) (i : ℕ) → i < length xs → (x : X) × (slice_get xs i ≡ Some x)
got_there [] i h = absurd (omega arith)
got_there (x ∷ xs) zero h = (x, refl)
got_there (x ∷ xs) (suc i) h = got_there xs i (omega arith)

pub got_from : {X Y : Type 0} (f : X → Y) (xs : List X) (i : ℕ) (x : X) (d : Y) → slice_get xs i ≡ Some x → get_or (map f xs) i d ≡ f x
got_from f [] i x d e = absurd cc
got_from f (y ∷ xs) zero x d e = ap f (same_Some y x e)
got_from f (y ∷ xs) (suc i) x d e = got_from f xs i x d e

pub got_front : {X : Type 0} (xs ys : List X) (i : ℕ) (x : X) → slice_get xs i ≡ Some x → slice_get (xs ++ ys) i ≡ Some x
got_front [] ys i x e = absurd cc
got_front (y ∷ xs) ys zero x e = e
got_front (y ∷ xs) ys (suc i) x e = got_front xs ys i x e

pub got_last : {X : Type 0} (xs : List X) (y : X) → slice_get (xs ++ y ∷ []) (length xs) ≡ Some y
got_last [] y = refl
got_last (x ∷ xs) y = got_last xs y

-- in a list with one more it is one of the others, or the last
pub got_back : {X : Type 0} (xs : List X) (y : X) (i : ℕ) (x : X) → i < length xs → slice_get (xs ++ y ∷ []) i ≡ Some x → slice_get xs i ≡ Some x
got_back [] y i x h e = absurd (omega arith)
got_back (z ∷ xs) y zero x h e = e
got_back (z ∷ xs) y (suc i) x h e = got_back xs y i x (omega arith) e

pub got_read : {X : Type 0} (xs : List X) (n : ℕ) (x : X) → n < length xs → x ≡ get_or xs n x → slice_get xs n ≡ Some x
got_read [] n x h e = absurd (omega arith)
got_read (y ∷ xs) zero x h e = ap Some (sym e)
got_read (y ∷ xs) (suc n) x h e = got_read xs n x (omega arith) e

pub got_at : {X : Type 0} (xs : List X) (n : ℕ) (d : X) → n < length xs → slice_get xs n ≡ Some (get_or xs n d)
got_at [] n d h = absurd (omega arith)
got_at (y ∷ xs) zero d h = refl
got_at (y ∷ xs) (suc n) d h = got_at xs n d (omega arith)

pub got_image : {X Y : Type 0} (f : X → Y) (xs : List X) (i : ℕ) (x : X) → slice_get xs i ≡ Some x → slice_get (map f xs) i ≡ Some (f x)
got_image f [] i x e = absurd cc
got_image f (y ∷ xs) zero x e = ap (λ z. Some (f z)) (same_Some y x e)
got_image f (y ∷ xs) (suc i) x e = got_image f xs i x e

pub got_past : {X Y : Type 0} (f : X → Y) (xs : List X) (i : ℕ) (y : Y) → slice_get (map f xs) i ≡ Some y → i < length xs
got_past f [] i y e = absurd cc
got_past f (x ∷ xs) zero y e = omega arith
got_past f (x ∷ xs) (suc i) y e = let h : i < length xs = got_past f xs i y e in omega arith

pub got_or : {X : Type 0} (xs : List X) (i : ℕ) (x d : X) → slice_get xs i ≡ Some x → get_or xs i d ≡ x
got_or [] i x d e = absurd cc
got_or (y ∷ xs) zero x d e = same_Some y x e
got_or (y ∷ xs) (suc i) x d e = got_or xs i x d e

pub contains_got : {X : Type 0} (xs : List X) (i : ℕ) (x : X) → slice_get xs i ≡ Some x → Contains xs x
contains_got xs i x e = (i, got_below xs i x e, got_or xs i x x e)

pub got_contained : {X : Type 0} (xs : List X) (x : X) → Contains xs x → (i : ℕ) × (slice_get xs i ≡ Some x)
got_contained xs x c = (c.0, got_read xs c.0 x c.1 (sym c.2))

-- what a list of images has
pub contains_map : {X Y : Type 0} (f : X → Y) (xs : List X) (x : X) → Contains xs x → Contains (map f xs) (f x)
contains_map f xs x c = let at = got_contained xs x c in contains_got (map f xs) at.0 (f x) (got_image f xs at.0 x at.1)

pub contains_unmap : {X Y : Type 0} (f : X → Y) (xs : List X) (y : Y) → Contains (map f xs) y → (x : X) × Contains xs x × (f x ≡ y)
contains_unmap f xs y c =
    let at = got_contained (map f xs) y c in
    let there = got_there xs at.0 (got_past f xs at.0 y at.1) in (
      there.0,
      contains_got xs at.0 there.0 there.1,
      same_Some (f there.0) y (sym (got_image f xs at.0 there.0 there.1) ∙ at.1),
    )
