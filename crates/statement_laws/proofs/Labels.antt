-- LABEL, whatever faults it has: a day is one that a date has, and a period has four digits at most.
use Rattle.std.proofs.Common.{◌≡◌, ℕ, ◌+◌, ◌-◌, ◌≤◌, ◌==◌, Bool, true, false, ◌&&◌, cond, nat_le, nat_lt, List, [], ◌∷◌, take, drop, length, codes, Option, Some, None, refl, arith}
use Rattle.std.specs.Str.{bytes_eq}
use Rattle.std.proofs.lemmas.Bool.{and_parts, leb-true}
use Rattle.jname_core.specs.Decimals.{decimal_value, is_decimal, number_within}
use Rattle.jcl_plan.specs.declared.plan.Expiry.{Expiry}
use Rattle.jcl_plan.specs.declared.plan.Expiry.TheVariants as expiry
use Rattle.date_core.specs.Dates.{days_before, days_in, is_day_of}
use Rattle.date_core.specs.Written.{day_by, of_century, short_day, slashed_day, written_day}
use Rattle.date_core.proofs.Numbered.{is_within}
use Rattle.operand_core.specs.Operands.{keyword_of}
use Rattle.operand_core.specs.Subparameters.{subparameters_of}
use Rattle.value_core.specs.Labels.{as_day, as_period, expiry_at, expiry_by, expiry_day, expiry_in, first_expiry, label, period}
use Rattle.cb_meaning.specs.Writable.{IsExpiry}
use Rattle.jcl_cards.specs.declared.coded.Coded.TheVariants.{Value}
use Rattle.statement_laws.specs.Ranges.{IsSoundLabel}

abbrev Fits : Option Expiry → Type 0
Fits None = Unit {0}
Fits (Some e) = IsExpiry e

either : (b : Bool) (x y : Option Expiry) → Fits x → Fits y → Fits (cond b x y)
either true x y one other = one
either false x y one other = other

either_day : (b : Bool) (x y : Option ℕ) → Fits (as_day x) → Fits (as_day y) → Fits (as_day (cond b x y))
either_day true x y one other = one
either_day false x y one other = other

either_period : (b : Bool) (x y : Option ℕ) → Fits (as_period x) → Fits (as_period y) → Fits (as_period (cond b x y))
either_period true x y one other = one
either_period false x y one other = other

-- a day that its year has
numbered : (year n : ℕ) → 1 ≤ n → is_day_of year n ≡ true → days_before (year - 1900) + n - 1 ≤ 93501
numbered year n low is =
    let last = and_parts (nat_le 1900 year && nat_le year 2155 && nat_le 1 n) (nat_le n (days_in year)) is in
    let first = and_parts (nat_le 1900 year && nat_le year 2155) (nat_le 1 n) last.0 in
    let years = and_parts (nat_le 1900 year) (nat_le year 2155) first.0 in
    is_within year n (days_before (year - 1900) + n - 1) (leb-true 1900 year years.0) (leb-true year 2155 years.1) (leb-true n (days_in year) last.1)
    (omega (arith, low))

day_fits : (year n : ℕ) (b : Bool) → is_day_of year n ≡ b → Fits (as_day (cond b (Some (days_before (year - 1900) + n - 1)) None))
day_fits year n false is = tt
day_fits year n true is =
    let last = and_parts (nat_le 1900 year && nat_le year 2155 && nat_le 1 n) (nat_le n (days_in year)) is in
    let first = and_parts (nat_le 1900 year && nat_le year 2155) (nat_le 1 n) last.0 in
    numbered year n (leb-true 1 n first.1) is

by_numbers : (year n : Option ℕ) → Fits (as_day (day_by year n))
by_numbers (Some year) (Some n) = day_fits year n (is_day_of year n) refl
by_numbers (Some year) None = tt
by_numbers None n = tt

slashed_fits : (year text : List ℕ) → Fits (as_day (slashed_day year text))
slashed_fits year [] = tt
slashed_fits year (c ∷ text) =
    either_day (c == 47) (day_by (number_within 1900 2155 year) (number_within 1 366 text)) None (by_numbers (number_within 1900 2155 year) (number_within 1 366 text)) tt

written_fits : (text : List ℕ) → Fits (as_day (expiry_day text))
written_fits text =
    either_day (length text == 5) (short_day text) (written_day text)
    (either_day (length text == 5) (day_by (of_century (number_within 0 99 (take 2 text))) (number_within 1 366 (drop 2 text))) None
    (by_numbers (of_century (number_within 0 99 (take 2 text))) (number_within 1 366 (drop 2 text))) tt)
    (either_day (length text == 8) (slashed_day (take 4 text) (drop 4 text)) None (slashed_fits (take 4 text) (drop 4 text)) tt)

within_by : (low above : Bool) (n : ℕ) → (above ≡ true → n ≤ 9999) → Fits (as_period (cond (low && above) (Some n) None))
within_by true true n fits = fits refl
within_by true false n fits = tt
within_by false above n fits = tt

period_fits : (text : List ℕ) → Fits (as_period (period text))
period_fits text =
    let n = decimal_value text in
    either_period (nat_lt 4 (length text)) None (number_within 0 9999 text) tt
    (either_period (is_decimal text) (cond (nat_le 0 n && nat_le n 9999) (Some n) None) None
    (within_by (nat_le 0 n) (nat_le n 9999) n (leb-true n 9999)) tt)

place_fits : (found : Option (List ℕ × List ℕ)) → Fits (expiry_at found)
place_fits None = tt
place_fits (Some found) =
    either (bytes_eq found.0 (codes "EXPDT")) (as_day (expiry_day found.1))
    (cond (bytes_eq found.0 (codes "RETPD")) (as_period (period found.1)) None) (written_fits found.1)
    (either (bytes_eq found.0 (codes "RETPD")) (as_period (period found.1)) None (period_fits found.1) tt)

first_fits : (said : Option Expiry) (later : Expiry) → Fits said → IsExpiry later → IsExpiry (first_expiry said later)
first_fits None later one other = other
first_fits (Some said) later one other = one

all_fit : (places : List (List ℕ)) → IsExpiry (expiry_in places)
all_fit [] = tt
all_fit (place ∷ places) = first_fits (expiry_at (keyword_of place)) (expiry_in places) (place_fits (keyword_of place)) (all_fit places)

pub label_is : (text : List ℕ) → IsSoundLabel (Value (label text).value)
label_is text = all_fit (subparameters_of text)
