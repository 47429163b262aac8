-- Numbers below one more.
use Rattle.std.proofs.Common.{◌≡◌, ◌<◌, ℕ, ◌+◌, Bool, true, false, nat_eq, arith, refl, sym, subst}
use Rattle.std.proofs.lemmas.Bool.{eqb-false, eqb-true}

-- what holds below a number and at it
pub up_to : (P : ℕ → Type 0) (n : ℕ) → ((m : ℕ) → m < n → P m) → P n → (m : ℕ) → m < n + 1 → P m
up_to P n below at m less = by (nat_eq m n) refl
  where
    by : (b : Bool) → nat_eq m n ≡ b → P m
    by true e = subst P (sym (eqb-true m n e)) at
    by false e = let other : (m ≡ n) → ⊥ = eqb-false m n e in below m (omega (arith, other, less))
