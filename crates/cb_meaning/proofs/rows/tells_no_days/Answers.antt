use Rattle.std.proofs.Common.{refl}
use Rattle.cb_meaning.proofs.rows.tells_no_days.Goals as goal

pub returns : goal.returns
returns c = record {
  last_day = refl;
  past_the_last = refl;
  most_days = refl;
  too_many_days = refl;
  no_kind = refl;
  number_without_kind = refl;
  none = refl;
  no_place_in_images = refl;
}
