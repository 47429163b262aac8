-- Items that differ, with one more that is not among them.
use Rattle.std.proofs.Common.{◌≡◌, ◌≢◌, Bool, true, false, List, [], ◌∷◌, ◌++◌, map, All}
use Rattle.std.specs.List.{list_any}
use Rattle.std.proofs.lemmas.List.Elements.{All-cons, All-head, All-nil, All-push, All-tail}
use Rattle.config_core.proofs.Refused.{neither}
use Rattle.plain.specs.Lists.{Differ}

pub differ_push : {X : Type 0} (xs : List X) (x : X) → Differ xs → All (λ y. y ≢ x) xs → Differ (xs ++ x ∷ [])
differ_push [] x d h = (All-nil (λ y. x ≢ y), tt)
differ_push (y ∷ ys) x d h =
    (All-push (λ z. y ≢ z) ys x d.0 (All-head (λ z. z ≢ x) y ys h), differ_push ys x d.1 (All-tail (λ z. z ≢ x) y ys h))

-- where a test finds none, none has what the test looks for
pub none_such : {X Y : Type 0} (f : X → Y) (p : X → Bool) (y : Y) → ((x : X) → f x ≡ y → p x ≡ true) → (xs : List X) → list_any p xs ≡ false →
    All (λ z. z ≢ y) (map f xs)
none_such f p y h [] e = All-nil (λ z. z ≢ y)
none_such f p y h (x ∷ xs) e =
    let parts = neither (p x) (list_any p xs) e in
    let other : f x ≢ y = λ is. let found : p x ≡ true = h x is in let missed : p x ≡ false = parts.0 in absurd cc in
    All-cons (λ z. z ≢ y) (f x) (map f xs) other (none_such f p y h xs parts.1)
