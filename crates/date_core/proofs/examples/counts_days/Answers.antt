use Rattle.std.proofs.Common.{refl}
use Rattle.date_core.proofs.examples.counts_days.Goals as goal

pub returns : goal.returns
returns c = record {
  first = refl;
  end_of_first_year = refl;
  no_leap_day_then = refl;
  next_year = refl;
  leap_day = refl;
  of_unix = refl;
  century = refl;
  no_century = refl;
  last = refl;
  past_last = refl;
  before_first = refl;
  no_day = refl;
}
