use Rattle.std.proofs.Common.{refl}
use Rattle.jcl_rows.proofs.values.reads_labels.Goals as goal

pub returns : goal.returns
returns c = record {
  day = refl;
  last_day_of_1900 = refl;
  no_leap_day_in_1900 = refl;
  leap_day = refl;
  last_of_all = refl;
  past_the_last = refl;
  before_the_first = refl;
  no_day_kept = refl;
  longest_period = refl;
  of_five_places = refl;
  period_alone = refl;
  day_0 = refl;
  four_digits = refl;
  six_digits = refl;
  no_period = refl;
  period_10000 = refl;
  letter = refl;
  no_keyword = refl;
  of_six_places = refl;
  keyword_not_last = refl;
  period_twice_and_day = refl;
  period_and_day = refl;
  other_keyword = refl;
}
