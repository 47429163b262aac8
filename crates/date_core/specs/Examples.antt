-- Days, as calendars have them: the first and the last, leap years and centuries.
use Rattle.std.specs.Prelude.{◌≡◌, codes, Some, None, true, false}
use Rattle.date_core.specs.Dates.{day_in, days_before, is_leap}
use Rattle.date_core.specs.Written.{short_day, written_day}

pub record CountsDays : Type 0 where
  pub first : day_in 1900 1 ≡ Some 0
  pub end_of_first_year : day_in 1900 365 ≡ Some 364
  pub no_leap_day_then : day_in 1900 366 ≡ None
  pub next_year : day_in 1901 1 ≡ Some 365
  pub leap_day : day_in 1904 366 ≡ Some 1825
  pub of_unix : day_in 1970 1 ≡ Some 25567
  pub century : is_leap 2000 ≡ true
  pub no_century : is_leap 2100 ≡ false
  pub last : day_in 2155 365 ≡ Some 93501
  pub past_last : day_in 2156 1 ≡ None
  pub before_first : day_in 1899 1 ≡ None
  pub no_day : day_in 1975 0 ≡ None

pub record ReadsDays : Type 0 where
  pub short : short_day (codes "75100") ≡ Some 27492
  pub with_slash : written_day (codes "1975/100") ≡ Some 27492
  pub not_leap : short_day (codes "75366") ≡ None
  pub leap : short_day (codes "76366") ≡ Some 28123
  pub zero : short_day (codes "75000") ≡ None
  pub four_digits : short_day (codes "7510") ≡ None
  pub no_slash : written_day (codes "19750100") ≡ None
  pub short_year : written_day (codes "975/0100") ≡ None
  pub last : written_day (codes "2155/365") ≡ Some 93501
  pub past_last : written_day (codes "2156/001") ≡ None
