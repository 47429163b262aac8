-- Of what is said of DDs in order, what stands before one that stands before a DD is not the DD's.
use Rattle.std.proofs.Common.{◌≡◌, ◌∙◌, ℕ, zero, suc, ◌-◌, ◌<◌, Bool, true, false, ◌&&◌, ◌||◌, ◌==◌, nat_lt, List, [], ◌∷◌, ◌++◌, Option, if◌then◌else◌, ap, arith, drop, length, slice_get, slice_index_or, None, Some, subst, sym}
use Rattle.jcl_meaning.specs.InOrder.{AreInOrder, first_of, is_before}

-- one that stands before a DD is not its own
apart : (a b s d : ℕ) → is_before a b s d ≡ true → (a == s && b == d) ≡ false
apart a b s d h = grind (arith, h)

-- an order
between : (a b m n s d : ℕ) → is_before a b m n ≡ true → is_before m n s d ≡ true → is_before a b s d ≡ true
between a b m n s d first second = grind (arith, first, second)

first_before : {A : Type 0} → (f g : A → ℕ) (x : A) (xs : List A) (j s d : ℕ) (none : A) → AreInOrder f g (x ∷ xs) → j < length xs →
    is_before (f (slice_index_or xs j none)) (g (slice_index_or xs j none)) s d ≡ true → is_before (f x) (g x) s d ≡ true
first_before f g x [] j s d none order here h = absurd (omega (arith, here))
first_before f g x (next ∷ xs) zero s d none order here h = between (f x) (g x) (f next) (g next) s d order.0 h
first_before f g x (next ∷ xs) (suc j) s d none order here h =
    between (f x) (g x) (f next) (g next) s d order.0 (first_before f g next xs j s d none order.1 (omega (arith, here)) h)

not_its : {A : Type 0} → (f g : A → ℕ) (x : A) (xs : List A) (s d : ℕ) → is_before (f x) (g x) s d ≡ true → first_of f g xs s d ≡ first_of f g (x ∷ xs) s d
not_its {A} f g x xs s d h =
    sym (ap (λ (b : Bool). let r : Option A = if b then Some x else first_of f g xs s d in r) (apart (f x) (g x) s d h))

rest_in_order : {A : Type 0} → (f g : A → ℕ) (x : A) (xs : List A) → AreInOrder f g (x ∷ xs) → AreInOrder f g xs
rest_in_order f g x [] order = tt
rest_in_order f g x (next ∷ xs) order = order.1

pub skipped : {A : Type 0} → (f g : A → ℕ) (list : List A) (j s d : ℕ) (none : A) → AreInOrder f g list → j < length list →
    is_before (f (slice_index_or list j none)) (g (slice_index_or list j none)) s d ≡ true →
    first_of f g (drop (suc j) list) s d ≡ first_of f g list s d
skipped f g [] j s d none order here h = absurd (omega (arith, here))
skipped f g (x ∷ xs) zero s d none order here h = not_its f g x xs s d h
skipped f g (x ∷ xs) (suc j) s d none order here h =
    skipped f g xs j s d none (rest_in_order f g x xs order) (omega (arith, here)) h
    ∙ not_its f g x xs s d (first_before f g x xs j s d none order (omega (arith, here)) h)

pub pushed : {A : Type 0} → (f g : A → ℕ) (list : List A) (i : ℕ) (last next : A) → suc i ≡ length list → slice_get list i ≡ Some last →
    is_before (f last) (g last) (f next) (g next) ≡ true → AreInOrder f g list → AreInOrder f g (list ++ next ∷ [])
pushed f g [] i last next end is h order = tt
pushed f g (x ∷ []) zero last next end is h order =
    let same : x ≡ last = cc in (ap (λ x. is_before (f x) (g x) (f next) (g next)) same ∙ h, tt)
pushed f g (x ∷ []) (suc i) last next end is h order = absurd (omega (arith, end))
pushed f g (x ∷ y ∷ list) zero last next end is h order = absurd (omega (arith, end))
pushed f g (x ∷ y ∷ list) (suc i) last next end is h order = (order.0, pushed f g (y ∷ list) i last next (omega (arith, end)) is h order.1)

pub pushed_last : {A : Type 0} → (f g : A → ℕ) (list : List A) (last next : A) → slice_get list (length list - 1) ≡ Some last →
    is_before (f last) (g last) (f next) (g next) ≡ true → AreInOrder f g list → AreInOrder f g (list ++ next ∷ [])
pushed_last f g [] last next is h order = tt
pushed_last f g (x ∷ xs) last next is h order = pushed f g (x ∷ xs) (length (x ∷ xs) - 1) last next (omega arith) is h order
