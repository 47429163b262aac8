-- A day that is spelled is read as that day.
use Rattle.std.proofs.Common.{◌≡◌, ◌<◌, ◌≤◌, ◌⊎◌, inl, inr, ◌+◌, ◌-◌, ◌*◌, ◌/◌, ◌%◌, ◌&&◌, ℕ, zero, suc, Bool, true, false, cond, nat_le, nat_lt, List, [], ◌∷◌, ◌++◌, Option, Some, None, length, codes, refl, sym, ap, ◌∙◌, arith, subst}
use Rattle.std.specs.Prelude.{not}
use Rattle.std.specs.List.{list_all}
use Rattle.std.proofs.lemmas.Bool.{cases_lt, lt-ltb, le-ltb}
use Rattle.std.proofs.lemmas.List.Folds.{list_all-append}
use Rattle.jname_core.specs.Characters.{is_digit}
use Rattle.jname_core.specs.Decimals.{number_within}
use Rattle.date_core.specs.Dates.{day_in, days_before, days_in}
use Rattle.date_core.specs.Written.{day_by, written_day}
use Rattle.date_core.proofs.Numbered.{is_numbered}
use Rattle.session_text.specs.Statements.{behind_if, expires_of, has_word, or_bad}
use Rattle.reader_laws.specs.SpelledDates.{IsDay, IsDayOrNone, date_from, date_text, day_digits, day_text, digit, expiry_fields, year_digits}
use Rattle.reader_laws.specs.SpelledStores.{flag_field}
use Rattle.reader_laws.proofs.Decimals.{Spells, digit_is, lies_within, read_is}
use Rattle.reader_laws.proofs.Said.{digit_good, is_good, is_good_field}
use Rattle.reader_laws.proofs.Stores.{flag_good}

its_digit : (n : ℕ) → is_digit (digit n) ≡ true
its_digit n = digit_is (n % 10) (omega arith)

year_spells : (n : ℕ) → n ≤ 9999 → Spells n (year_digits n)
year_spells n few = record {
  digits_all = λ i. its_digit (n / 1000) i && (its_digit (n / 100) i && (its_digit (n / 10) i && (its_digit n i && true)));
  something = refl;
  value = omega (arith, few);
}

day_spells : (n : ℕ) → n ≤ 999 → Spells n (day_digits n)
day_spells n few = record {
  digits_all = λ i. its_digit (n / 100) i && (its_digit (n / 10) i && (its_digit n i && true));
  something = refl;
  value = omega (arith, few);
}

-- a date from a first day on
record IsDateOf (day : ℕ) (d : ℕ × ℕ) : Type 0 where
  from : 1900 ≤ d.0
  to : d.0 ≤ 2155
  first : 1 ≤ d.1
  last : d.1 ≤ days_in d.0
  counts : days_before (d.0 - 1900) + d.1 ≡ day + 1

all_before : days_before 255 ≡ 93137
all_before = refl

one_year_more : (year : ℕ) → 1900 ≤ year → days_before (year + 1 - 1900) ≡ days_before (year - 1900) + days_in year
one_year_more year from =
    let next : year + 1 - 1900 ≡ suc (year - 1900) = omega (arith, from) in
    let back : 1900 + (year - 1900) ≡ year = omega (arith, from) in
    ap days_before next ∙ ap (λ y. days_before (year - 1900) + days_in y) back

year_length : (year : ℕ) → days_in year ≤ 366
year_length year = grind arith

in_year_or_later : (fuel year left day : ℕ) → 1900 ≤ year → year + suc fuel ≡ 2155 → days_before (year - 1900) + left ≡ day →
    (days_in year ≤ left → IsDateOf day (date_from fuel (year + 1) (left - days_in year))) → (left < days_in year) ⊎ (days_in year ≤ left) →
    IsDateOf day (cond (nat_lt left (days_in year)) (year, left + 1) (date_from fuel (year + 1) (left - days_in year)))
in_year_or_later fuel year left day from sum counts later (inl less) =
    subst (λ b. IsDateOf day (cond b (year, left + 1) (date_from fuel (year + 1) (left - days_in year)))) (sym (lt-ltb left (days_in year) less))
    (record { from = from; to = omega (arith, sum); first = omega arith; last = omega (arith, less); counts = omega (arith, counts) })
in_year_or_later fuel year left day from sum counts later (inr more) =
    subst (λ b. IsDateOf day (cond b (year, left + 1) (date_from fuel (year + 1) (left - days_in year)))) (sym (le-ltb left (days_in year) more)) (later more)

dated : (fuel year left day : ℕ) → 1900 ≤ year → year + fuel ≡ 2155 → days_before (year - 1900) + left ≡ day → day ≤ 93501 → IsDateOf day (date_from fuel year left)
unfolding date_from
dated zero year left day from sum counts few =
    let here : year ≡ 2155 = omega (arith, sum) in
    subst (λ y. days_before (y - 1900) + left ≡ day → IsDateOf day (y, left + 1)) (sym here)
    (λ counted. record {
      from = omega arith;
      to = omega arith;
      first = omega arith;
      last = omega (arith, counted, few, all_before);
      counts = omega (arith, counted);
    }) counts
dated (suc fuel) year left day from sum counts few =
    in_year_or_later fuel year left day from sum counts (λ more. dated fuel (year + 1) (left - days_in year) day (omega (arith, from)) (omega (arith, sum))
    (let next = one_year_more year from in omega (arith, next, counts, more)) few)
    (cases_lt left (days_in year))

is_date : (day : ℕ) → IsDay day → IsDateOf day (date_from 255 1900 day)
is_date day few = let none : days_before 0 ≡ 0 = refl in dated 255 1900 day day (omega arith) refl (omega (arith, none)) few

read_date : (day : ℕ) (d : ℕ × ℕ) → IsDateOf day d → written_day (date_text d) ≡ Some day
read_date day d is =
    let to = is.to in
    let last = is.last in
    let long = year_length d.0 in
    let year : number_within 1900 2155 (year_digits d.0) ≡ Some d.0 =
    read_is 1900 2155 d.0 (year_digits d.0) (year_spells d.0 (omega (arith, to)))
    ∙ ap (λ b. cond b (Some d.0) None) (lies_within 1900 2155 d.0 is.from is.to) in
    let place : number_within 1 366 (day_digits d.1) ≡ Some d.1 =
    read_is 1 366 d.1 (day_digits d.1) (day_spells d.1 (omega (arith, last, long)))
    ∙ ap (λ b. cond b (Some d.1) None) (lies_within 1 366 d.1 is.first (omega (arith, last, long))) in
    let counts = is.counts in
    (λ i. day_by (year i) (place i)) ∙ is_numbered d.0 d.1 is.from is.to is.first is.last ∙ ap Some (omega (arith, counts))

pub day_read : (day : ℕ) → IsDay day → written_day (day_text day) ≡ Some day
day_read day few = read_date day (date_from 255 1900 day) (is_date day few)

-- its text is a field
good_digit : (n : ℕ) → is_good (digit n) ≡ true
good_digit n = digit_good (digit n) (its_digit n)

good_date : (d : ℕ × ℕ) → is_good_field (date_text d) ≡ true
good_date d = λ i. (good_digit (d.0 / 1000) i && (good_digit (d.0 / 100) i && (good_digit (d.0 / 10) i && (good_digit d.0 i
    && (true && (good_digit (d.1 / 100) i && (good_digit (d.1 / 10) i && (good_digit d.1 i && true)))))))) && true

pub day_good : (day : ℕ) → is_good_field (day_text day) ≡ true
day_good day = good_date (date_from 255 1900 day)

-- the end of a set's line
abbrev pub set_end : Bool → Option ℕ → List (List ℕ)
set_end catalogued expires = flag_field (codes "CAT") catalogued ++ expiry_fields expires

expiry_good : (expires : Option ℕ) → list_all is_good_field (expiry_fields expires) ≡ true
expiry_good None = refl
expiry_good (Some day) = ap (λ b. b && true) (day_good day)

pub end_good : (catalogued : Bool) (expires : Option ℕ) → list_all is_good_field (set_end catalogued expires) ≡ true
end_good catalogued expires =
    list_all-append is_good_field (flag_field (codes "CAT") catalogued) (expiry_fields expires)
    ∙ λ i. flag_good (codes "CAT") catalogued refl i && expiry_good expires i

pub word_read : (catalogued : Bool) (expires : Option ℕ) → has_word (codes "CAT") (set_end catalogued expires) ≡ catalogued
word_read true expires = refl
word_read false None = refl
word_read false (Some day) = refl

pub end_read : (catalogued : Bool) (expires : Option ℕ) → IsDayOrNone expires →
    expires_of (behind_if (has_word (codes "CAT") (set_end catalogued expires)) (set_end catalogued expires)) ≡ Some expires
end_read true None is = refl
end_read true (Some day) is = ap or_bad (day_read day is)
end_read false None is = refl
end_read false (Some day) is = ap or_bad (day_read day is)
