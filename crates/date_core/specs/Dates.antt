-- Dates: years from 1900 to 2155. Days count from 1900/001 as 0. (This profile)
use Rattle.std.specs.Prelude.{◌≡◌, ℕ, zero, suc, ◌+◌, ◌-◌, ◌≤◌, ◌%◌, ◌==◌, Bool, not, ◌&&◌, ◌||◌, nat_le, Option, Some, None, if◌then◌else◌}
use Rattle.date_core.specs.declared.calendar.OrdinalDate.{OrdinalDate}

abbrev pub is_leap : ℕ → Bool
is_leap year = (year % 4 == 0 && not (year % 100 == 0)) || year % 400 == 0

abbrev pub days_in : ℕ → ℕ
days_in year = if is_leap year then 366 else 365

-- the days of the years from 1900 on before this many years later
abbrev pub days_before : ℕ → ℕ
days_before zero = 0
days_before (suc years) = days_before years + days_in (1900 + years)

-- so many years after 1900, and the day of that year, from 1
pub record IsDate (day years of_year : ℕ) : Type 0 where
  pub within : (1 ≤ of_year) × (of_year ≤ days_in (1900 + years))
  pub counts : day + 1 ≡ days_before years + of_year

-- a year, and the day of that year
pub record IsDated (day : ℕ) (d : OrdinalDate) : Type 0 where
  pub from_first : 1900 ≤ d.year
  pub is : IsDate day (d.year - 1900) d.of_year

abbrev pub is_day_of : ℕ → ℕ → Bool
is_day_of year of_year = nat_le 1900 year && nat_le year 2155 && nat_le 1 of_year && nat_le of_year (days_in year)

-- the day of a year, which has it
abbrev pub day_in : ℕ → ℕ → Option ℕ
day_in year of_year = if is_day_of year of_year then Some (days_before (year - 1900) + of_year - 1) else None
