-- Elements of lists.
use Rattle.std.proofs.Common.{◌≡◌, arith, Bool, true, false, cond, List, [], ◌∷◌, map, refl}
use Rattle.std.specs.Prelude.{All, filter}
use Rattle.std.specs.List.{Contains, list_any}
use Rattle.std.proofs.lemmas.Bool.{or_parts}
use Rattle.std.proofs.lemmas.List.Elements.{All-contains, All-cons, All-nil, All-weaker, Contains-append_right}

pub contains_first : {X : Type 0} (x : X) (xs : List X) → Contains (x ∷ xs) x
contains_first x xs = (0, omega arith, refl)

pub contains_later : {X : Type 0} (x y : X) (xs : List X) → Contains xs y → Contains (x ∷ xs) y
contains_later x y xs h = Contains-append_right (x ∷ []) xs y h

-- what passes stays
all_pass : {X : Type 0} (p : X → Bool) (xs : List X) → All (λ x. p x ≡ true → Contains (filter p xs) x) xs
all_pass {X = X} p [] = All-nil (λ (x : X). p x ≡ true → Contains (filter p []) x)
all_pass {X = X} p (y ∷ xs) =
    All-cons (λ (x : X). p x ≡ true → Contains (filter p (y ∷ xs)) x) y xs (first (p y))
    (All-weaker (λ (x : X). p x ≡ true → Contains (filter p xs) x) (λ x. p x ≡ true → Contains (filter p (y ∷ xs)) x)
    (λ x h passes. later (p y) x (h passes)) xs (all_pass p xs))
  where
    first : (b : Bool) → b ≡ true → Contains (cond b (y ∷ filter p xs) (filter p xs)) y
    first true e = contains_first y (filter p xs)
    first false e = absurd cc

    later : (b : Bool) (x : X) → Contains (filter p xs) x → Contains (cond b (y ∷ filter p xs) (filter p xs)) x
    later true x h = contains_later y x (filter p xs) h
    later false x h = h

pub contains_filter : {X : Type 0} (p : X → Bool) (xs : List X) (x : X) → p x ≡ true → Contains xs x → Contains (filter p xs) x
contains_filter {X = X} p xs x passes h = All-contains (λ (y : X). p y ≡ true → Contains (filter p xs) y) xs x (all_pass p xs) h passes

-- what is made of an element is among what is made of all
pub all_mapped : {X Y : Type 0} (f : X → Y) (xs : List X) → All (λ x. Contains (map f xs) (f x)) xs
all_mapped {X = X} f [] = All-nil (λ (x : X). Contains (map f []) (f x))
all_mapped {X = X} f (y ∷ xs) =
    All-cons (λ (x : X). Contains (map f (y ∷ xs)) (f x)) y xs (contains_first (f y) (map f xs))
    (All-weaker (λ (x : X). Contains (map f xs) (f x)) (λ x. Contains (map f (y ∷ xs)) (f x)) (λ x h. contains_later (f y) (f x) (map f xs) h) xs (all_mapped f xs))

-- none passes
pub none_passes : {X : Type 0} (p : X → Bool) (xs : List X) → list_any p xs ≡ false → All (λ x. p x ≡ false) xs
none_passes {X = X} p [] h = All-nil (λ (x : X). p x ≡ false)
none_passes {X = X} p (y ∷ xs) h =
    let both : (p y ≡ false) × (list_any p xs ≡ false) = or_parts (p y) (list_any p xs) h in
    All-cons (λ (x : X). p x ≡ false) y xs both.0 (none_passes p xs both.1)
