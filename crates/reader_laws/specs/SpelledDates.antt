-- How days are spelled: yyyy/ddd. (This profile)
use Rattle.std.specs.Prelude.{ℕ, zero, suc, ◌+◌, ◌-◌, ◌/◌, ◌%◌, ◌≤◌, nat_lt, List, [], ◌∷◌, ◌++◌, codes, Option, Some, None, if◌then◌else◌}
use Rattle.date_core.specs.Dates.{days_in}

abbrev pub digit : ℕ → ℕ
digit n = 48 + n % 10

-- a year in four digits, and a day of it in three
abbrev pub year_digits : ℕ → List ℕ
year_digits n = digit (n / 1000) ∷ digit (n / 100) ∷ digit (n / 10) ∷ digit n ∷ []

abbrev pub day_digits : ℕ → List ℕ
day_digits n = digit (n / 100) ∷ digit (n / 10) ∷ digit n ∷ []

abbrev pub date_text : ℕ × ℕ → List ℕ
date_text d = year_digits d.0 ++ (47 ∷ day_digits d.1)

-- the date so many days behind the first of a year: in that year, or in one of so many behind it
unfoldable pub date_from : ℕ → ℕ → ℕ → ℕ × ℕ
date_from zero year left = (year, left + 1)
date_from (suc years) year left = if nat_lt left (days_in year) then (year, left + 1) else date_from years (year + 1) (left - days_in year)

abbrev pub day_text : ℕ → List ℕ
day_text day = date_text (date_from 255 1900 day)

-- the fields of a set's day, where it has one
abbrev pub expiry_fields : Option ℕ → List (List ℕ)
expiry_fields None = []
expiry_fields (Some day) = codes "EXPDT" ∷ day_text day ∷ []

-- a day that can be spelled
abbrev pub IsDay : ℕ → Type 0
IsDay day = day ≤ 93501

abbrev pub IsDayOrNone : Option ℕ → Type 0
IsDayOrNone None = Unit {0}
IsDayOrNone (Some day) = IsDay day
