-- A number of four digits is told by them.
use Rattle.std.proofs.Common.{◌≡◌, ◌≤◌, ◌<◌, ◌+◌, ◌-◌, ◌/◌, ◌%◌, ◌^◌, ◌++◌, ◌==◌, ⊎_elim, ℕ, zero, suc, false, List, [], ◌∷◌, length, replicate, decimal, arith, ap, ◌∙◌}
use Rattle.std.specs.Fmt.{digit_glyph, digits as written, digits_onto}
use Rattle.std.proofs.lemmas.Bool.{cases_lt, cond_both, eqb-true}
use Rattle.std.proofs.lemmas.List.{length-append, length-replicate}
use Rattle.jcl_plan.specs.Texts.{digits}
use Rattle.machine_meaning.specs.declared.machine.TheConstants.{MOST_JOBS}
use Rattle.line_laws.proofs.Numbers.{four_digits, same_digits}

-- the digits stand before what was written
grows : (k n : ℕ) (acc : List ℕ) → length acc ≤ length (digits_onto k 10 false n acc)
grows zero n acc = omega arith
grows (suc k) n acc =
    let glyph : ℕ = digit_glyph false (n % 10) in
    cond_both (n / 10 == 0) (glyph ∷ acc) (digits_onto k 10 false (n / 10) (glyph ∷ acc)) (λ t. length acc ≤ length t)
    (λ e. omega arith) (λ e. omega (arith, grows k (n / 10) (glyph ∷ acc)))

-- a power of ten is not 0
some_power : (j : ℕ) → 0 < 10 ^ j
some_power zero = omega arith
some_power (suc j) = omega (arith, some_power j)

-- a number that is not below a power of ten has more digits than it has zeros
long : (j k n : ℕ) (acc : List ℕ) → j < k → 10 ^ j ≤ n → length acc + j < length (digits_onto k 10 false n acc)
long j zero n acc few high = absurd (omega arith)
long zero (suc k) n acc few high =
    let glyph : ℕ = digit_glyph false (n % 10) in
    cond_both (n / 10 == 0) (glyph ∷ acc) (digits_onto k 10 false (n / 10) (glyph ∷ acc)) (λ t. length acc + 0 < length t)
    (λ e. omega arith) (λ e. omega (arith, grows k (n / 10) (glyph ∷ acc)))
long (suc j) (suc k) n acc few high =
    let glyph : ℕ = digit_glyph false (n % 10) in
    cond_both (n / 10 == 0) (glyph ∷ acc) (digits_onto k 10 false (n / 10) (glyph ∷ acc)) (λ t. length acc + suc j < length t)
    (λ e. omega (arith, eqb-true (n / 10) 0 e, some_power j)) (λ e. omega (arith, long j k (n / 10) (glyph ∷ acc) (omega arith) (omega arith)))

-- so one of five digits is written in more than four
long_decimal : (n : ℕ) → 10 ^ 4 ≤ n → 4 < length (decimal n)
unfolding written
long_decimal n h = long 4 64 n [] (omega arith) h

-- so one that is written in four digits is below ten thousand
below : (n : ℕ) → length (digits 4 n) ≡ 4 → n < 10 ^ 4
below n four = ⊎_elim (λ l. l) (λ high. absurd (none high)) (cases_lt n (10 ^ 4))
  where
    none : 10 ^ 4 ≤ n → ⊥
    none high =
        let zeros : List ℕ = replicate (4 - length (decimal n)) 48 in
        let front : length {A = ℕ} zeros ≡ 4 - length {A = ℕ} (decimal n) = length-replicate {A = ℕ} (4 - length (decimal n)) 48 in
        let whole : length {A = ℕ} (zeros ++ decimal n) ≡ length {A = ℕ} zeros + length {A = ℕ} (decimal n) = length-append zeros (decimal n) in
        omega (arith, long_decimal n high)

pub same_four : (m n : ℕ) → n ≤ MOST_JOBS → digits 4 m ≡ digits 4 n → m ≡ n
same_four m n h e = same_digits m n (omega (arith, below m (ap length e ∙ four_digits n h))) h e
