-- Days as they are written. (GC28-6704, "LABEL parameter")
use Rattle.std.specs.Prelude.{ℕ, ◌+◌, ◌==◌, List, [], ◌∷◌, take, drop, length, Option, Some, None, if◌then◌else◌}
use Rattle.jname_core.specs.Decimals.{number_within}
use Rattle.date_core.specs.Dates.{day_in}

abbrev pub day_by : Option ℕ → Option ℕ → Option ℕ
day_by (Some year) (Some of_year) = day_in year of_year
day_by (Some year) None = None
day_by None of_year = None

abbrev pub of_century : Option ℕ → Option ℕ
of_century None = None
of_century (Some year) = Some (1900 + year)

-- yyddd: a year from 1900 to 1999
abbrev pub short_day : List ℕ → Option ℕ
short_day text = if length text == 5 then day_by (of_century (number_within 0 99 (take 2 text))) (number_within 1 366 (drop 2 text)) else None

abbrev pub slashed_day : List ℕ → List ℕ → Option ℕ
slashed_day year [] = None
slashed_day year (c ∷ of_year) = if c == 47 then day_by (number_within 1900 2155 year) (number_within 1 366 of_year) else None

-- yyyy/ddd (this profile's)
abbrev pub written_day : List ℕ → Option ℕ
written_day text = if length text == 8 then slashed_day (take 4 text) (drop 4 text) else None
