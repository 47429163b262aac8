-- A day that its year has lies among the days that are numbered.
use Rattle.std.proofs.Common.{◌≡◌, ◌≤◌, ◌<◌, ◌+◌, ◌-◌, ℕ, Option, Some, None, cond, true, refl, sym, ap, ◌∙◌, arith, MatchOption}
use Rattle.date_core.specs.Dates.{day_in, days_before, days_in, is_day_of}
use Rattle.date_core.proofs.Dates.{earlier}

is_of_year : (year n : ℕ) → 1900 ≤ year → year ≤ 2155 → 1 ≤ n → n ≤ days_in year → is_day_of year n ≡ true
is_of_year year n from to first last = grind arith

pub is_numbered : (year n : ℕ) → 1900 ≤ year → year ≤ 2155 → 1 ≤ n → n ≤ days_in year → day_in year n ≡ Some (days_before (year - 1900) + n - 1)
is_numbered year n from to first last =
    ap (λ b. cond b (Some (days_before (year - 1900) + n - 1)) None) (is_of_year year n from to first last)

all_days : days_before 256 ≡ 93502
all_days = refl

-- the last day of such a year is numbered
pub is_within : (year n day : ℕ) → 1900 ≤ year → year ≤ 2155 → n ≤ days_in year → day + 1 ≡ days_before (year - 1900) + n → day ≤ 93501
is_within year n day from to last counts =
    let back : 1900 + (year - 1900) ≡ year = omega (arith, from) in
    let ends = rw back at (earlier (year - 1900) 256 (omega (arith, to))) in
    omega (arith, ends, last, counts, all_days)

pub answered : (year n day : ℕ) (result : Option ℕ) → 1900 ≤ year → year ≤ 2155 → 1 ≤ n → n ≤ days_in year → day + 1 ≡ days_before (year - 1900) + n →
    MatchOption result (93501 < day) (λ d. (d ≡ day) × (day ≤ 93501)) → result ≡ day_in year n
answered year n day None from to first last counts more = absurd (omega (arith, more, is_within year n day from to last counts))
answered year n day (Some d) from to first last counts is =
    ap Some (omega (arith, is.0, counts)) ∙ sym (is_numbered year n from to first last)
