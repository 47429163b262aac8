-- The word that is read of a number has that number.
use Rattle.std.proofs.Common.{◌≡◌, ℕ, zero, suc, ◌+◌, ◌≤◌, ◌==◌, false, cond, Some, None, refl, ap, arith}
use Rattle.std.specs.Prelude.{bit_and}
use Rattle.std.proofs.lemmas.Bool.{ne_eqb}
use Rattle.cb_meaning.specs.Codes.{after_abend_code, conditional_code, mark, normal_code, operator_code, or_zero, status_code}
use Rattle.cb_meaning.specs.Readings.{after_abend_read, conditional_read, normal_read, number_read, operator_read, sign_read, status_read}
use Rattle.cb_meaning.specs.Spelled.{sign_code}

pub operator_back : (n : ℕ) → 1 ≤ n → n ≤ 6 → operator_code (operator_read n) ≡ n
operator_back zero h g = absurd (omega (arith, h))
operator_back (suc zero) h g = refl
operator_back (suc (suc zero)) h g = refl
operator_back (suc (suc (suc zero))) h g = refl
operator_back (suc (suc (suc (suc zero)))) h g = refl
operator_back (suc (suc (suc (suc (suc zero))))) h g = refl
operator_back (suc (suc (suc (suc (suc (suc zero)))))) h g = refl
operator_back (suc (suc (suc (suc (suc (suc (suc n))))))) h g = absurd (omega (arith, g))

pub after_back : (n : ℕ) → n ≤ 2 → after_abend_code (after_abend_read n) ≡ n
after_back zero g = refl
after_back (suc zero) g = refl
after_back (suc (suc zero)) g = refl
after_back (suc (suc (suc n))) g = absurd (omega (arith, g))

pub status_back : (n : ℕ) → 1 ≤ n → n ≤ 4 → status_code (status_read n) ≡ n
status_back zero h g = absurd (omega (arith, h))
status_back (suc zero) h g = refl
status_back (suc (suc zero)) h g = refl
status_back (suc (suc (suc zero))) h g = refl
status_back (suc (suc (suc (suc zero)))) h g = refl
status_back (suc (suc (suc (suc (suc n))))) h g = absurd (omega (arith, g))

pub normal_back : (n : ℕ) → n ≤ 5 → normal_code (normal_read n) ≡ n
normal_back zero g = refl
normal_back (suc zero) g = refl
normal_back (suc (suc zero)) g = refl
normal_back (suc (suc (suc zero))) g = refl
normal_back (suc (suc (suc (suc zero)))) g = refl
normal_back (suc (suc (suc (suc (suc zero))))) g = refl
normal_back (suc (suc (suc (suc (suc (suc n)))))) g = absurd (omega (arith, g))

pub conditional_back : (n : ℕ) → n ≤ 5 → (n == 3) ≡ false → conditional_code (conditional_read n) ≡ n
conditional_back zero g e = refl
conditional_back (suc zero) g e = refl
conditional_back (suc (suc zero)) g e = refl
conditional_back (suc (suc (suc zero))) g e = absurd cc
conditional_back (suc (suc (suc (suc zero)))) g e = refl
conditional_back (suc (suc (suc (suc (suc zero))))) g e = refl
conditional_back (suc (suc (suc (suc (suc (suc n)))))) g e = absurd (omega (arith, g))

pub sign_back : (n : ℕ) → n ≤ 1 → sign_code (sign_read n) ≡ n
sign_back zero g = refl
sign_back (suc zero) g = refl
sign_back (suc (suc n)) g = absurd (omega (arith, g))

pub number_some : (n : ℕ) → number_read (suc n) ≡ Some (suc n)
number_some n = ap (λ b. cond b None (Some (suc n))) (ne_eqb (suc n) 0 (λ e. omega (arith, e)))

pub number_back : (n : ℕ) → or_zero (number_read n) ≡ n
number_back zero = refl
number_back (suc n) = ap or_zero (number_some n)

-- the marks of a DD
pub marks_back : (n : ℕ) → n ≤ 7 → n ≡ mark (bit_and n 1 == 1) 1 + (mark (bit_and n 4 == 4) 4 + mark (bit_and n 2 == 2) 2)
marks_back zero g = refl
marks_back (suc zero) g = refl
marks_back (suc (suc zero)) g = refl
marks_back (suc (suc (suc zero))) g = refl
marks_back (suc (suc (suc (suc zero)))) g = refl
marks_back (suc (suc (suc (suc (suc zero))))) g = refl
marks_back (suc (suc (suc (suc (suc (suc zero)))))) g = refl
marks_back (suc (suc (suc (suc (suc (suc (suc zero))))))) g = refl
marks_back (suc (suc (suc (suc (suc (suc (suc (suc n)))))))) g = absurd (omega (arith, g))
