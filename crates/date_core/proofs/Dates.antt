-- Each day is a day of some year.
use Rattle.std.proofs.Common.{◌≡◌, ◌≤◌, ◌<◌, ◌+◌, ◌⊎◌, inl, inr, ℕ, zero, suc, Bool, true, false, cond, arith, refl, subst}
use Rattle.std.proofs.lemmas.Bool.{cases_lt, cases_order}
use Rattle.date_core.specs.Dates.{IsDate, days_before, days_in, is_leap}

pub record Dated (day : ℕ) : Type 0 where
  pub years : ℕ
  pub of_year : ℕ
  pub is : IsDate day years of_year

by_leap : (b : Bool) → 1 ≤ cond b 366 365
by_leap true = omega arith
by_leap false = omega arith

has_a_day : (year : ℕ) → 1 ≤ days_in year
has_a_day year = by_leap (is_leap year)

more_of_it : (day before n : ℕ) → day + 1 ≡ before + n → suc day + 1 ≡ before + (n + 1)
more_of_it day before n e = omega (arith, e)

over_with_it : (day before n days : ℕ) → day + 1 ≡ before + n → n ≤ days → days ≤ n → suc day + 1 ≡ (before + days) + 1
over_with_it day before n days e f g = omega (arith, e, f, g)

next : (day : ℕ) (d : Dated day) → (d.of_year < days_in (1900 + d.years)) ⊎ (days_in (1900 + d.years) ≤ d.of_year) → Dated (suc day)
next day d (inl less) = record {
  years = d.years;
  of_year = d.of_year + 1;
  is = record { within = (omega arith, omega (arith, less)); counts = more_of_it day (days_before d.years) d.of_year d.is.counts };
}
next day d (inr more) = record {
  years = suc d.years;
  of_year = 1;
  is = record {
    within = (omega arith, has_a_day (1900 + suc d.years));
    counts = over_with_it day (days_before d.years) d.of_year (days_in (1900 + d.years)) d.is.counts d.is.within.1 more;
  };
}

pub dated : (day : ℕ) → Dated day
dated zero = record { years = 0; of_year = 1; is = record { within = (omega arith, has_a_day 1900); counts = refl } }
dated (suc day) = let d : Dated day = dated day in next day d (cases_lt d.of_year (days_in (1900 + d.years)))

-- a day has one date
pub earlier : (years more : ℕ) → years < more → days_before years + days_in (1900 + years) ≤ days_before more
earlier years zero less = absurd (omega (arith, less))
earlier years (suc more) less = by_order (earlier years more) (cases_order years more)
  where
    far : (a b c : ℕ) → a ≤ b → a ≤ b + c
    far a b c e = omega (arith, e)

    same : (n : ℕ) → n ≤ n
    same n = omega arith

    by_order : (years < more → days_before years + days_in (1900 + years) ≤ days_before more) → (years ≡ more) ⊎ ((years < more) ⊎ (more < years)) →
        days_before years + days_in (1900 + years) ≤ days_before (suc more)
    by_order later (inl is) =
        subst (λ (n : ℕ). days_before years + days_in (1900 + years) ≤ days_before n + days_in (1900 + n)) is
        (same (days_before years + days_in (1900 + years)))
    by_order later (inr (inl before)) = far (days_before years + days_in (1900 + years)) (days_before more) (days_in (1900 + more)) (later before)
    by_order later (inr (inr behind)) = absurd (omega (arith, less, behind))

not_later : (day before n days more m : ℕ) → day + 1 ≡ before + n → n ≤ days → before + days ≤ more → day + 1 ≡ more + m → 1 ≤ m → ⊥
not_later day before n days more m e f g h k = omega (arith, e, f, g, h, k)

pub one_year : (day y n z m : ℕ) → IsDate day y n → IsDate day z m → y ≡ z
one_year day y n z m d e = by_order (cases_order y z)
  where
    by_order : (y ≡ z) ⊎ ((y < z) ⊎ (z < y)) → y ≡ z
    by_order (inl same) = same
    by_order (inr (inl less)) =
        absurd (not_later day (days_before y) n (days_in (1900 + y)) (days_before z) m d.counts d.within.1 (earlier y z less) e.counts e.within.0)
    by_order (inr (inr more)) =
        absurd (not_later day (days_before z) m (days_in (1900 + z)) (days_before y) n e.counts e.within.1 (earlier z y more) d.counts d.within.0)

pub one_day : (day before n m : ℕ) → day + 1 ≡ before + n → day + 1 ≡ before + m → n ≡ m
one_day day before n m e f = omega (arith, e, f)
