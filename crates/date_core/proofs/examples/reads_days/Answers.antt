use Rattle.std.proofs.Common.{refl}
use Rattle.date_core.proofs.examples.reads_days.Goals as goal

pub returns : goal.returns
returns c = record {
  short = refl;
  with_slash = refl;
  not_leap = refl;
  leap = refl;
  zero = refl;
  four_digits = refl;
  no_slash = refl;
  short_year = refl;
  last = refl;
  past_last = refl;
}
