use Rattle.std.proofs.Common.{refl}
use Rattle.view_rows.proofs.fates.meets_no_test.Goals as goal

pub returns : goal.returns
returns c = record {
  bypassed_step = refl;
  bypassed_step_before_one_ran = refl;
  flushed_step = refl;
  flushed_step_before_one_ran = refl;
  step_that_ran = refl;
  step_that_ran_before_one_ran = refl;
  no_such_step = refl;
  no_such_step_before_one_ran = refl;
  any_step = refl;
  any_step_before_one_ran = refl;
}
