-- What is an element of a list, or of a part of it.
use Rattle.std.proofs.Common.{◌≡◌, ◌⊎◌, ◌||◌, inl, inr, ◌<◌, zero, suc, Bool, true, false, cond, List, [], ◌∷◌, length, refl, sym, ap, ◌∙◌, subst, arith}
use Rattle.std.specs.Prelude.{filter}
use Rattle.std.specs.List.{Contains, list_any}
use Rattle.std.proofs.lemmas.Bool.{cases_Bool}
use Rattle.std.proofs.lemmas.List.Elements.{All-contains, All-contains_itself, All-filter, filter_passes}

pub in_front : {X : Type 0} (x : X) (xs : List X) → Contains (x ∷ xs) x
in_front x xs = (0, omega arith, refl)

pub later_too : {X : Type 0} (x y : X) (xs : List X) → Contains xs y → Contains (x ∷ xs) y
later_too x y xs h = let below = h.1 in (suc h.0, omega arith, h.2)

pub in_no_list : {X : Type 0} (x : X) → Contains [] x → ⊥
in_no_list {X} x h = let below : h.0 < length {A = X} [] = h.1 in absurd (omega arith)

-- an element of a list is its first or stands behind it
pub first_or_later : {X : Type 0} (x y : X) (xs : List X) → Contains (x ∷ xs) y → (x ≡ y) ⊎ Contains xs y
first_or_later x y xs (zero, below, is) = inl is
first_or_later x y xs (suc k, below, is) = inr (k, omega (arith, below), is)

pub without_elements : {X : Type 0} (xs : List X) → ((x : X) → Contains xs x → ⊥) → xs ≡ []
without_elements [] none = refl
without_elements (x ∷ xs) none = absurd (none x (in_front x xs))

-- what passes a filter was there, and passes the test; what is there and passes the test passes the filter
pub was_there : {X : Type 0} (p : X → Bool) (xs : List X) (x : X) → Contains (filter p xs) x → Contains xs x
was_there p xs x h = All-contains (Contains xs) (filter p xs) x (All-filter p (Contains xs) xs (All-contains_itself xs)) h

pub has_passed : {X : Type 0} (p : X → Bool) (xs : List X) (x : X) → Contains (filter p xs) x → p x ≡ true
has_passed {X} p xs x h = All-contains (λ (y : X). p y ≡ true) (filter p xs) x (filter_passes p xs) h

pub passes : {X : Type 0} (p : X → Bool) (xs : List X) (x : X) → Contains xs x → p x ≡ true → Contains (filter p xs) x
passes p [] x h e = absurd (in_no_list x h)
passes {X} p (y ∷ xs) x h e =
    elim (first_or_later y x xs h) [
      | inl is ↦ at_first (p y) (ap p is ∙ e) is
      | inr rest ↦ at_rest (p y) (passes p xs x rest e)
    ]
  where
    at_first : (b : Bool) → b ≡ true → y ≡ x → Contains (cond b (y ∷ filter p xs) (filter p xs)) x
    at_first true t is = subst (Contains (y ∷ filter p xs)) is (in_front y (filter p xs))
    at_first false t is = cc

    at_rest : (b : Bool) → Contains (filter p xs) x → Contains (cond b (y ∷ filter p xs) (filter p xs)) x
    at_rest true there = later_too y x (filter p xs) there
    at_rest false there = there

-- where all pass a filter all are left
pub all_left : {X : Type 0} (p : X → Bool) (xs : List X) → ((x : X) → Contains xs x → p x ≡ true) → filter p xs ≡ xs
all_left p [] all = refl
all_left p (x ∷ xs) all =
    ap (λ b. cond b (x ∷ filter p xs) (filter p xs)) (all x (in_front x xs))
    ∙ ap (λ rest. x ∷ rest) (all_left p xs (λ y there. all y (later_too x y xs there)))

-- some element passes a test
pub some_passes : {X : Type 0} (p : X → Bool) (xs : List X) → list_any p xs ≡ true → (x : X) × Contains xs x × (p x ≡ true)
some_passes p [] some = cc
some_passes p (x ∷ xs) some =
    elim (cases_Bool (p x)) [
      | inl is ↦ (x, in_front x xs, is)
      | inr never ↦ let rest = some_passes p xs (sym (ap (λ (b : Bool). b || list_any p xs) never) ∙ some) in (rest.0, later_too x rest.0 xs rest.1, rest.2)
    ]
