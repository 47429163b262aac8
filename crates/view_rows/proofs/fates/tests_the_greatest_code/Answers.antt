use Rattle.std.proofs.Common.{refl}
use Rattle.view_rows.proofs.fates.tests_the_greatest_code.Goals as goal

pub returns : goal.returns
returns c = record {
  greater = refl;
  greater_or_equal = refl;
  equal = refl;
  less = refl;
  less_or_equal = refl;
  not_equal = refl;
}
