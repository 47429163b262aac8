-- Elements of lists, and of lists of images.
use Rattle.std.proofs.Common.{◌≡◌, ◌<◌, ◌++◌, ◌⊎◌, inl, inr, ℕ, zero, suc, List, [], ◌∷◌, Some, length, map, refl, ap, arith}
use Rattle.std.specs.Prelude.{slice_get}
use Rattle.std.specs.List.{Contains}

-- an element of a list of images
pub contains_map : {X Y : Type 0} (f : X → Y) (xs : List X) (x : X) → Contains xs x → Contains (map f xs) (f x)
contains_map f [] x (k, l, e) = absurd (omega arith)
contains_map f (y ∷ xs) x (zero, l, e) = (0, omega arith, ap f e)
contains_map f (y ∷ xs) x (suc k, l, e) =
    let more = contains_map f xs x (k, omega arith, e) in
    let less = more.1 in
    (suc more.0, omega arith, more.2)

-- an element of which some element is the image
pub record IsImage {X Y : Type 0} (f : X → Y) (xs : List X) (y : Y) : Type 0 where
  pub number : ℕ
  pub from : X
  pub less : number < length xs
  pub there : slice_get xs number ≡ Some from
  pub is : f from ≡ y

pub image_of : {X Y : Type 0} (f : X → Y) (xs : List X) (y : Y) → Contains (map f xs) y → IsImage f xs y
image_of f [] y (k, l, e) = absurd (omega arith)
image_of f (x ∷ xs) y (zero, l, e) = record { number = 0; from = x; less = omega arith; there = refl; is = e }
image_of f (x ∷ xs) y (suc k, l, e) =
    let more = image_of f xs y (k, omega arith, e) in
    let less = more.less in
    record { number = suc more.number; from = more.from; less = omega arith; there = more.there; is = more.is }

pub contains_cons : {X : Type 0} (y : X) (ys : List X) (x : X) → Contains ys x → Contains (y ∷ ys) x
contains_cons y ys x (k, l, e) = (suc k, omega arith, e)

pub cons_cases : {X : Type 0} (y : X) (ys : List X) (x : X) → Contains (y ∷ ys) x → (y ≡ x) ⊎ Contains ys x
cons_cases y ys x (zero, l, e) = inl e
cons_cases y ys x (suc k, l, e) = inr (k, omega arith, e)

-- at a place of the first of two lists
pub get_front : {X : Type 0} (xs ys : List X) (at : ℕ) → at < length xs → slice_get (xs ++ ys) at ≡ slice_get xs at
get_front [] ys at h = absurd (omega arith)
get_front (x ∷ xs) ys zero h = refl
get_front (x ∷ xs) ys (suc at) h = get_front xs ys at (omega arith)
