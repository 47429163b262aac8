-- Numbers fall after an entry and a removal too.
use Rattle.std.proofs.Common.{◌≡◌, ◌≤◌, ◌<◌, ◌-◌, ◌==◌, ℕ, suc, Bool, true, false, cond, nat_lt, List, [], ◌∷◌, length, take, zero, slice_get, Option, Some, None, IfSome, refl, ap, ◌∙◌, sym, arith, ltb-true, ltb-false, eq-eqb, ne_eqb}
use Rattle.std.proofs.lemmas.Bool.{cond-true, cond-false}
use Rattle.std.proofs.lemmas.Option.{same_Some}
use Rattle.group_core.specs.declared.group.Generation.{Generation}
use Rattle.group_core.specs.Groups.{IsFalling, serial_of, without, inserted, lowest_of}

pub falling_wider : (low high : ℕ) (gs : List Generation) → low ≤ high → IsFalling low gs → IsFalling high gs
falling_wider low high [] h k = tt
falling_wider low high (g ∷ gs) h k = (omega (arith, k.0), k.1, k.2)

inserted_step : (b c : Bool) (bound : ℕ) (g h : Generation) (hs : List Generation) → nat_lt h.number g.number ≡ b → (h.number == g.number) ≡ c →
    IsFalling bound (h ∷ hs) → g.number < bound → 0 < g.number → cond c (Some h.serial) (serial_of hs g.number) ≡ None →
    (g.number < h.number → serial_of hs g.number ≡ None → IsFalling h.number (inserted g hs)) →
    IsFalling bound (cond b (g ∷ h ∷ hs) (h ∷ inserted g hs))
inserted_step b true bound g h hs eb ec f u p n k = absurd (cc)
inserted_step true false bound g h hs eb ec f u p n k = (u, p, (ltb-true h.number g.number eb, f.1, f.2))
inserted_step false false bound g h hs eb ec f u p n k =
    let le : g.number ≤ h.number = ltb-false h.number g.number eb in
    let ne : h.number ≡ g.number → ⊥ = λ e. let t = eq-eqb h.number g.number e in cc (t, ec) in
    (f.0, f.1, k (omega (arith, le, ne)) n)

pub falling_inserted : (bound : ℕ) (g : Generation) (gs : List Generation) → IsFalling bound gs → g.number < bound → 0 < g.number → serial_of gs g.number ≡ None → IsFalling bound (inserted g gs)
falling_inserted bound g [] f u p n = (u, p, tt)
falling_inserted bound g (h ∷ hs) f u p n =
    inserted_step (nat_lt h.number g.number) (h.number == g.number) bound g h hs refl refl f u p n (λ v m. falling_inserted h.number g hs f.2 v p m)

without_step : (b : Bool) (bound : ℕ) (g : Generation) (gs : List Generation) (n : ℕ) → IsFalling bound (g ∷ gs) → IsFalling g.number (without gs n) → IsFalling bound (cond b gs (g ∷ without gs n))
without_step true bound g gs n f k = falling_wider g.number bound gs (omega (arith, f.0)) f.2
without_step false bound g gs n f k = (f.0, f.1, k)

pub falling_without : (bound : ℕ) (gs : List Generation) (n : ℕ) → IsFalling bound gs → IsFalling bound (without gs n)
falling_without bound [] n f = tt
falling_without bound (g ∷ gs) n f = without_step (g.number == n) bound g gs n f (falling_without g.number gs n f.2)

lowest_below : (bound : ℕ) (gs : List Generation) (low : Generation) → IsFalling bound gs → lowest_of gs ≡ Some low → low.number < bound
lowest_below bound [] low f e = cc
lowest_below bound (g ∷ []) low f e = let n : g.number ≡ low.number = ap (λ (x : Generation). x.number) (same_Some g low e) in omega (arith, f.0, n)
lowest_below bound (g ∷ h ∷ hs) low f e = let l : low.number < g.number = lowest_below g.number (h ∷ hs) low f.2 e in omega (arith, f.0, l)

-- without the lowest, all but the last are left
pub all_but_lowest : (bound : ℕ) (gs : List Generation) (low : Generation) → IsFalling bound gs → lowest_of gs ≡ Some low → take (length gs - 1) gs ≡ without gs low.number
all_but_lowest bound [] low f e = cc
all_but_lowest bound (g ∷ []) low f e =
    let n : g.number ≡ low.number = ap (λ (x : Generation). x.number) (same_Some g low e) in
    sym (cond-true (g.number == low.number) [] (g ∷ []) (eq-eqb g.number low.number n))
all_but_lowest bound (g ∷ h ∷ hs) low f e =
    let l : low.number < g.number = lowest_below g.number (h ∷ hs) low f.2 e in
    let k : length (g ∷ h ∷ hs) - 1 ≡ suc (length (h ∷ hs) - 1) = omega arith in
    ap (λ (n : ℕ). take n (g ∷ h ∷ hs)) k
    ∙ ap (λ (ks : List Generation). g ∷ ks) (all_but_lowest g.number (h ∷ hs) low f.2 e)
    ∙ sym (cond-false (g.number == low.number) (h ∷ hs) (g ∷ without (h ∷ hs) low.number) (ne_eqb g.number low.number (λ q. omega (arith, l, q))))

missing_step : (c : Bool) (g : Generation) (gs : List Generation) (n k : ℕ) → (g.number == n) ≡ c → cond c (Some g.serial) (serial_of gs n) ≡ None →
    (serial_of gs n ≡ None → serial_of (take k gs) n ≡ None) → serial_of (g ∷ take k gs) n ≡ None
missing_step true g gs n k ec e h = cc
missing_step false g gs n k ec e h = cond-false (g.number == n) (Some g.serial) (serial_of (take k gs) n) ec ∙ h e

-- a number that stands nowhere stands nowhere in a front
pub missing_take : (gs : List Generation) (n k : ℕ) → serial_of gs n ≡ None → serial_of (take k gs) n ≡ None
missing_take gs n zero e = refl
missing_take [] n (suc k) e = refl
missing_take (g ∷ gs) n (suc k) e = missing_step (g.number == n) g gs n k refl e (missing_take gs n k)

pub falling_take : (bound : ℕ) (gs : List Generation) (k : ℕ) → IsFalling bound gs → IsFalling bound (take k gs)
falling_take bound gs zero f = tt
falling_take bound [] (suc k) f = tt
falling_take bound (g ∷ gs) (suc k) f = (f.0, f.1, falling_take g.number gs k f.2)

-- a generation at a place has a number of a generation
pub number_in_range : (bound : ℕ) (gs : List Generation) (i : ℕ) (g : Generation) → IsFalling bound gs → slice_get gs i ≡ Some g → (0 < g.number) × (g.number < bound)
number_in_range bound [] i g f e = cc
number_in_range bound (h ∷ hs) zero g f e =
    let n : h.number ≡ g.number = ap (λ (x : Generation). x.number) (same_Some h g e) in (omega (arith, f.1, n), omega (arith, f.0, n))
number_in_range bound (h ∷ hs) (suc i) g f e =
    let k : (0 < g.number) × (g.number < h.number) = number_in_range h.number hs i g f.2 e in (k.0, omega (arith, f.0, k.1))

lowest_above : (bound : ℕ) (gs : List Generation) (low : Generation) → IsFalling bound gs → lowest_of gs ≡ Some low → 0 < low.number
lowest_above bound [] low f e = absurd cc
lowest_above bound (g ∷ []) low f e = let n : g.number ≡ low.number = ap (λ (x : Generation). x.number) (same_Some g low e) in omega (arith, f.1, n)
lowest_above bound (g ∷ h ∷ hs) low f e = lowest_above g.number (h ∷ hs) low f.2 e

pub lowest_in_range : (o : Option Generation) (gs : List Generation) → o ≡ lowest_of gs → IsFalling 10000 gs → IfSome o (λ g. (0 < g.number) × (g.number ≤ 9999))
lowest_in_range None gs e f = tt
lowest_in_range (Some g) gs e f =
    let below : g.number < 10000 = lowest_below 10000 gs g f (sym e) in
    (lowest_above 10000 gs g f (sym e), omega arith)
