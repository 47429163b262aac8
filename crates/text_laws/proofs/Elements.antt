-- What holds of the elements of lists.
use Rattle.std.proofs.Common.{◌≡◌, ◌++◌, ℕ, zero, suc, List, [], ◌∷◌, Some, All, subst}
use Rattle.std.specs.Prelude.{slice_get, slice_index_or}
use Rattle.std.specs.List.{flat_map}
use Rattle.std.proofs.lemmas.List.Elements.{All-append, All-cons, All-head, All-nil, All-tail}
use Rattle.std.proofs.lemmas.Option.{get_or_from_slice_get, slice_get_within}

-- of the element at a place
pub at_place : {X : Type 0} (P : X → Type 0) (xs : List X) (i : ℕ) (x : X) → All P xs → slice_get xs i ≡ Some x → P x
at_place P xs i x all is = subst P (get_or_from_slice_get xs i x x is) (all i x (slice_get_within xs i x is))

-- of the element at a place, or of what stands for it
pub at_or : {X : Type 0} (P : X → Type 0) (xs : List X) (i : ℕ) (d : X) → All P xs → P d → P (slice_index_or xs i d)
at_or P [] i d all other = other
at_or P (x ∷ xs) zero d all other = All-head P x xs all
at_or P (x ∷ xs) (suc i) d all other = at_or P xs i d (All-tail P x xs all) other

-- of a list of one
pub of_one : {X : Type 0} (P : X → Type 0) (x : X) → P x → All P (x ∷ [])
of_one P x h = All-cons P x [] h (All-nil P)

-- of the front of a list, and of what is behind it
pub of_front : {X : Type 0} (P : X → Type 0) (xs ys : List X) → All P (xs ++ ys) → All P xs
of_front P [] ys all = All-nil P
of_front P (x ∷ xs) ys all = All-cons P x xs (All-head P x (xs ++ ys) all) (of_front P xs ys (All-tail P x (xs ++ ys) all))

pub of_behind : {X : Type 0} (P : X → Type 0) (xs ys : List X) → All P (xs ++ ys) → All P ys
of_behind P [] ys all = all
of_behind P (x ∷ xs) ys all = of_behind P xs ys (All-tail P x (xs ++ ys) all)

-- of lists behind one another
pub of_flat : {X Y : Type 0} (P : Y → Type 0) (f : X → List Y) (xs : List X) → All (λ x. All P (f x)) xs → All P (flat_map f xs)
of_flat P f [] all = All-nil P
of_flat {X} P f (x ∷ xs) all =
    All-append P (f x) (flat_map f xs) (All-head (λ (y : X). All P (f y)) x xs all) (of_flat P f xs (All-tail (λ (y : X). All P (f y)) x xs all))
