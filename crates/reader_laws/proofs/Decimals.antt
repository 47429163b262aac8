-- Numbers in decimal.
use Rattle.std.proofs.Common.{◌≡◌, ◌<◌, ◌≤◌, ◌⊎◌, inl, inr, ◌+◌, ◌-◌, ◌*◌, ◌/◌, ◌%◌, ◌^◌, ◌++◌, ℕ, Bool, true, false, cond, List, [], ◌∷◌, Option, Some, None, length, replicate, refl, ap, ◌∙◌, arith}
use Rattle.std.specs.Prelude.{not, ◌&&◌, ◌==◌, suc, zero, nat_le, decimal}
use Rattle.std.specs.List.{list_all}
use Rattle.std.proofs.lemmas.Fmt.{decimal_by_steps}
use Rattle.std.proofs.lemmas.List.Folds.{list_all-append}
use Rattle.std.proofs.lemmas.List.Sums.{fold-append}
use Rattle.jname_core.specs.Characters.{is_digit}
use Rattle.jname_core.specs.Decimals.{decimal_value, if_within, number_within}
use Rattle.reader_laws.specs.Spelled.{number_with_zeros}

-- digits that are a number
pub record Spells (n : ℕ) (digits : List ℕ) : Type 0 where
  pub digits_all : list_all is_digit digits ≡ true
  pub something : (length digits == 0) ≡ false
  pub value : decimal_value digits ≡ n

pub digit_is : (n : ℕ) → n < 10 → is_digit (48 + n) ≡ true
digit_is n h = grind (arith)

one_digit : (n : ℕ) → n < 10 → Spells n ((48 + n) ∷ [])
one_digit n h = record {
  digits_all = ap (λ (b : Bool). b && true) (digit_is n h);
  something = refl;
  value = omega arith;
}

not_zero : (n : ℕ) → (suc n == 0) ≡ false
not_zero n = grind (arith)

not_empty : (digits : List ℕ) (d : ℕ) → (length (digits ++ d ∷ []) == 0) ≡ false
not_empty [] d = refl
not_empty (c ∷ digits) d = not_zero (length (digits ++ d ∷ []))

last_digit : (n value : ℕ) → value ≡ n / 10 → 10 * value + (48 + n % 10 - 48) ≡ n
last_digit n value h = omega arith

one_more : (n : ℕ) (digits : List ℕ) → 10 ≤ n → Spells (n / 10) digits → Spells n (digits ++ ((48 + n % 10) ∷ []))
one_more n digits h s = record {
  digits_all = list_all-append is_digit digits ((48 + n % 10) ∷ [])
      ∙ ap (λ (b : Bool). b && (is_digit (48 + n % 10) && true)) s.digits_all ∙ ap (λ (b : Bool). b && true) (digit_is (n % 10) (omega arith));
  something = not_empty digits (48 + n % 10);
  value = fold-append (λ number c. 10 * number + (c - 48)) 0 digits ((48 + n % 10) ∷ []) ∙ last_digit n (decimal_value digits) s.value;
}

pub spelled : (n : ℕ) → n < 2 ^ 64 → Spells n (decimal n)
spelled n h = decimal_by_steps Spells one_digit one_more n h

pub more_zeros : (zeros n : ℕ) (digits : List ℕ) → Spells n digits → Spells n (replicate zeros 48 ++ digits)
more_zeros zero n digits s = s
more_zeros (suc zeros) n digits s =
    let t = more_zeros zeros n digits s in
    record { digits_all = t.digits_all; something = not_zero (length (replicate zeros 48 ++ digits)); value = t.value }

-- digits that are a number are read as that number
pub read_is : (low high n : ℕ) (digits : List ℕ) → Spells n digits → number_within low high digits ≡ if_within low high n
read_is low high n digits s =
    let value : Option ℕ = if_within low high (decimal_value digits) in
    ap (λ (b : Bool). cond (not b && list_all is_digit digits) value None) s.something
    ∙ ap (λ (b : Bool). cond b value None) s.digits_all
    ∙ ap (if_within low high) s.value

pub number_is : (zeros low high n : ℕ) → n < 2 ^ 64 → number_within low high (number_with_zeros zeros n) ≡ if_within low high n
number_is zeros low high n h = read_is low high n (number_with_zeros zeros n) (more_zeros zeros n (decimal n) (spelled n h))

pub lies_within : (low high n : ℕ) → low ≤ n → n ≤ high → (nat_le low n && nat_le n high) ≡ true
lies_within low high n h k = grind (arith)

lies_outside : (low high n : ℕ) → (n < low) ⊎ (high < n) → (nat_le low n && nat_le n high) ≡ false
lies_outside low high n (inl h) = grind (arith)
lies_outside low high n (inr h) = grind (arith)

pub within_is : (zeros low high n : ℕ) → n < 2 ^ 64 → low ≤ n → n ≤ high → number_within low high (number_with_zeros zeros n) ≡ Some n
within_is zeros low high n h k l = number_is zeros low high n h ∙ ap (λ (b : Bool). cond b (Some n) None) (lies_within low high n k l)

pub outside_is : (zeros low high n : ℕ) → n < 2 ^ 64 → (n < low) ⊎ (high < n) → number_within low high (number_with_zeros zeros n) ≡ None
outside_is zeros low high n h k = number_is zeros low high n h ∙ ap (λ (b : Bool). cond b (Some n) None) (lies_outside low high n k)
