-- A view by its number.
use Rattle.std.proofs.Common.{◌≡◌, ◌∷◌, ◌∙◌, ◌<◌, ℕ, zero, suc, List, [], Option, Some, None, length, ap, arith, get_or, map}
use Rattle.std.specs.Prelude.{IfOk, Result, Ok, Err, slice_get}

some_is : {X : Type 0} (x y : X) → Some x ≡ Some y → x ≡ y
some_is {X = X} x y e = ap (λ (o : Option X). or_else o) e
  where
    or_else : Option X → X
    or_else None = x
    or_else (Some z) = z

pub at_map : {X Y : Type 0} (f : X → Y) (xs : List X) (n : ℕ) (x : X) (y : Y) → n < length xs → x ≡ get_or xs n x →
    slice_get (map f xs) n ≡ Some y → f x ≡ y
at_map f [] n x y l e h = absurd (omega arith)
at_map f (z ∷ zs) zero x y l e h = ap f e ∙ some_is (f z) y h
at_map f (z ∷ zs) (suc n) x y l e h = at_map f zs n x y (omega arith) e h

pub ok_weaker : {T E : Type 0} (r : Result T E) (P Q : T → Type 0) → ((x : T) → P x → Q x) → IfOk r P → IfOk r Q
ok_weaker (Ok x) P Q f h = f x h
ok_weaker (Err e) P Q f h = h
