-- Where a generation stands, and where a new one goes.
use Rattle.std.proofs.Common.{◌≡◌, ◌≤◌, ◌<◌, ◌+◌, ◌-◌, ◌==◌, ℕ, suc, Bool, true, false, not, cond, nat_lt, List, [], ◌∷◌, length, get_or, Some, None, refl, ap, ◌∙◌, sym, subst, arith, one-add, ltb-true, ltb-false, slice_get}
use Rattle.std.specs.List.{position, position_or_len, insert, remove}
use Rattle.std.proofs.lemmas.List.Sums.{prefix_len-le-length}
use Rattle.std.proofs.lemmas.Option.{cond_some}
use Rattle.group_core.specs.declared.group.Generation.{Generation}
use Rattle.group_core.specs.Groups.{serial_of, without, inserted, lowest_of}

pub place_some : {X : Type 0} (p : X → Bool) (xs : List X) (i : ℕ) → position p xs ≡ Some i → (i ≡ position_or_len p xs) × (position_or_len p xs < length xs)
place_some p xs i h =
    let e : (nat_lt (position_or_len p xs) (length xs) ≡ true) × (position_or_len p xs ≡ i) = cond_some (nat_lt (position_or_len p xs) (length xs)) (position_or_len p xs) i h in
    (sym e.1, ltb-true (position_or_len p xs) (length xs) e.0)

none_not : (b : Bool) (i : ℕ) → cond b (Some i) None ≡ None → b ≡ false
none_not true i h = cc
none_not false i h = refl

pub place_none : {X : Type 0} (p : X → Bool) (xs : List X) → position p xs ≡ None → length xs ≡ position_or_len p xs
place_none p xs h =
    omega (arith, ltb-false (position_or_len p xs) (length xs) (none_not (nat_lt (position_or_len p xs) (length xs)) (position_or_len p xs) h), prefix_len-le-length (λ x. not (p x)) xs)

abbrev has_number : ℕ → Generation → Bool
has_number n g = g.number == n

missed_step : (b : Bool) (gs : List Generation) (n p : ℕ) (s : List ℕ) → length gs + 1 ≤ cond (not b) (1 + p) 0 → (length gs ≤ p → serial_of gs n ≡ None) → cond b (Some s) (serial_of gs n) ≡ None
missed_step true gs n p s h k = absurd (omega arith)
missed_step false gs n p s h k = k (omega arith)

missed : (gs : List Generation) (n : ℕ) → length gs ≤ position_or_len (has_number n) gs → serial_of gs n ≡ None
missed [] n h = refl
missed (g ∷ gs) n h = missed_step (has_number n g) gs n (position_or_len (has_number n) gs) g.serial (omega (arith, h)) (missed gs n)

-- a number that stands nowhere has no volume
pub serial_missed : (gs : List Generation) (n : ℕ) → position (has_number n) gs ≡ None → None ≡ serial_of gs n
serial_missed gs n h = sym (missed gs n (omega (arith, place_none (has_number n) gs h)))

abbrev StandsAt : List Generation → ℕ → ℕ → Type 0
StandsAt gs n p = ((d : Generation) → Some (get_or gs p d).serial ≡ serial_of gs n) × (remove gs p ≡ without gs n)

stands_step : (b : Bool) (g : Generation) (gs : List Generation) (n p : ℕ) → cond (not b) (1 + p) 0 < length gs + 1 → (p < length gs → StandsAt gs n p) →
    ((d : Generation) → Some (get_or (g ∷ gs) (cond (not b) (1 + p) 0) d).serial ≡ cond b (Some g.serial) (serial_of gs n))
    × (remove (g ∷ gs) (cond (not b) (1 + p) 0) ≡ cond b gs (g ∷ without gs n))
stands_step true g gs n p h k = (λ d. refl, refl)
stands_step false g gs n p h k =
    let s : StandsAt gs n p = k (omega arith) in
    (λ d. rw one-add (s.0 d), rw one-add (ap (λ hs. g ∷ hs) s.1))

stands : (gs : List Generation) (n : ℕ) → position_or_len (has_number n) gs < length gs → StandsAt gs n (position_or_len (has_number n) gs)
stands [] n h = absurd (omega arith)
stands (g ∷ gs) n h = stands_step (has_number n g) g gs n (position_or_len (has_number n) gs) (omega (arith, h)) (stands gs n)

-- a number that stands somewhere has its volume there, and its removal is that place's
pub serial_found : (gs : List Generation) (n i : ℕ) (d : Generation) → position (has_number n) gs ≡ Some i → Some (get_or gs i d).serial ≡ serial_of gs n
serial_found gs n i d h =
    let e = place_some (has_number n) gs i h in
    subst (λ (p : ℕ). Some (get_or gs p d).serial ≡ serial_of gs n) (sym e.0) ((stands gs n e.1).0 d)

pub removed_there : (gs : List Generation) (n i : ℕ) → position (has_number n) gs ≡ Some i → remove gs i ≡ without gs n
removed_there gs n i h =
    let e = place_some (has_number n) gs i h in
    subst (λ (p : ℕ). remove gs p ≡ without gs n) (sym e.0) (stands gs n e.1).1

inserted_step : (b : Bool) (g h : Generation) (hs : List Generation) (p : ℕ) → insert hs p g ≡ inserted g hs → insert (h ∷ hs) (cond (not b) (1 + p) 0) g ≡ cond b (g ∷ h ∷ hs) (h ∷ inserted g hs)
inserted_step true g h hs p e = refl
inserted_step false g h hs p e = rw one-add (ap (λ ks. h ∷ ks) e)

-- a new generation goes before the first that is older
pub inserted_there : (g : Generation) (gs : List Generation) → insert gs (position_or_len (λ h. nat_lt h.number g.number) gs) g ≡ inserted g gs
inserted_there g [] = refl
inserted_there g (h ∷ hs) = inserted_step (nat_lt h.number g.number) g h hs (position_or_len (λ k. nat_lt k.number g.number) hs) (inserted_there g hs)

-- the last is the lowest
pub last_lowest : (gs : List Generation) → slice_get gs (length gs - 1) ≡ lowest_of gs
last_lowest [] = refl
last_lowest (g ∷ []) = refl
last_lowest (g ∷ h ∷ hs) =
    let e : length (g ∷ h ∷ hs) - 1 ≡ suc (length (h ∷ hs) - 1) = omega arith in
    ap (slice_get (g ∷ h ∷ hs)) e ∙ last_lowest (h ∷ hs)
