-- The kit's calendar counts as the years' lengths do.
use Rattle.std.proofs.Common.{◌≡◌, ◌≤◌, ◌<◌, ◌+◌, ◌-◌, ◌%◌, ℕ, zero, suc, refl, ap, ◌∙◌, arith, ℤ, pos, neg_ℤ, ◌+ℤ◌, ◌-ℤ◌, ◌<ℤ◌, ◌≤ℤ◌}
use Rattle.std.proofs.lemmas.Int.{by_lt_z}
use Rattle.jiff_core.specs.declared.civil.date.Date.{Date}
use Rattle.jiff_core.specs.Calendar.{day_count, days_from_civil, days_in_year}
use Rattle.jiff_core.specs.Date.{epoch_day, ordinal}
use Rattle.jiff_core.proofs.SignedLemmas.{signed_arith}
use Rattle.jiff_core.proofs.CalendarLemmas.{day_count-day_of_year, day_count-epoch, day_count-lt_year, day_count-next_year, day_of_year_bound, days_from_civil-day_count}
use Rattle.jiff_core.proofs.DateLemmas.{civil}
use Rattle.date_core.specs.Dates.{days_before, days_in}

pub same_length : (year : ℕ) → days_in_year (pos year) ≡ days_in year
same_length year = grind arith

-- the first days of the years from 1900 on
pub first_of : (years : ℕ) → day_count (pos (1900 + years)) 1 1 ≡ day_count (pos 1900) 1 1 + days_before years
first_of zero = let same : 1900 + zero ≡ 1900 = omega arith in rw same (omega arith)
first_of (suc years) =
    let next = day_count-next_year (pos (1900 + years)) (pos (1900 + suc years)) (omega (arith, signed_arith)) (omega (arith, signed_arith)) in
    omega (arith, next, first_of years, same_length (1900 + years))

of_unix : days_before 70 ≡ 25567
of_unix = refl

pub from_1900 : day_count (pos 1900) 1 1 ≡ 4346386
from_1900 = omega (arith, first_of 70, of_unix, day_count-epoch)

-- the number of a date that lies so many years behind 1900
pub counts : (d : Date) (years n : ℕ) → d.year ≡ pos (1900 + years) → epoch_day d +ℤ pos 4371587 ≡ pos n → n + 1 ≡ 4346020 + days_before years + ordinal d
counts d years n year is =
    let begun : day_count d.year 1 1 ≡ 4346386 + days_before years = rw year (omega (arith, first_of years, from_1900)) in
    omega (arith, signed_arith, days_from_civil-day_count d.year d.month d.day, day_count-day_of_year d.year d.month d.day d.day_in.0, begun, is)

-- one that is counted from 1900 on is of no earlier year
pub not_before : (d : Date) (n : ℕ) → epoch_day d +ℤ pos 4371587 ≡ pos n → 4346020 ≤ n → pos 1900 ≤ℤ d.year
not_before d n is from = by_lt_z d.year (pos 1900)
    (λ less. absurd
    (omega
    (arith, signed_arith, days_from_civil-day_count d.year d.month d.day, day_count-lt_year d.year d.month d.day (pos 1900) 1 1 (civil d) (omega arith) less, from_1900, is)))
    (λ more. more)

-- the place of a date in its year
pub first : (d : Date) → 1 ≤ ordinal d
first d = omega (arith, d.day_in.0)

pub within : (d : Date) (year : ℕ) → d.year ≡ pos year → ordinal d ≤ days_in year
within d year is =
    let length : days_in_year d.year ≡ days_in year = ap days_in_year is ∙ same_length year in
    omega (arith, day_of_year_bound d.year d.month d.day (civil d), length)
