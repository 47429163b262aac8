-- A place of a list that is as it was.
use Rattle.std.proofs.Common.{◌≡◌, ℕ, zero, suc, List, [], ◌∷◌, Some, refl, ap}
use Rattle.std.specs.Prelude.{Result, Ok, Err, IfOk, OnErr, slice_get, slice_set}

pub set_same : {X : Type 0} (xs : List X) (k : ℕ) (x y : X) → slice_get xs k ≡ Some x → y ≡ x → slice_set xs k y ≡ xs
set_same [] k x y e is = refl
set_same (z ∷ xs) zero x y e is = let same : z ≡ x = cc in ap (λ w. w ∷ xs) (let both : y ≡ z = cc in both)
set_same (z ∷ xs) (suc k) x y e is = ap (λ ws. z ∷ ws) (set_same xs k x y e is)

pub still_there : {T E X : Type 0} (r : Result T E) (P : Type 0) (xs : List X) (k : ℕ) (x y : X) → slice_get xs k ≡ Some x → OnErr r (P × (y ≡ x)) →
    OnErr r (P × (slice_set xs k y ≡ xs))
still_there (Ok t) P xs k x y e h = tt
still_there (Err f) P xs k x y e h = (h.0, set_same xs k x y e h.1)

-- what holds at any result
pub on_err : {T E : Type 0} (r : Result T E) (P : Type 0) → P → OnErr r P
on_err (Ok t) P h = tt
on_err (Err f) P h = h

-- and what follows from what holds at an `Ok`
pub if_ok : {T E : Type 0} (r : Result T E) (P Q : T → Type 0) → ((t : T) → P t → Q t) → IfOk r P → IfOk r Q
if_ok (Ok t) P Q so h = so t h
if_ok (Err f) P Q so h = tt
