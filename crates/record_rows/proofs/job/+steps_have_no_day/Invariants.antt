use Rattle.std.proofs.Common.{length}
use Rattle.record_rows.proofs.job.+steps_have_no_day.Given as goal

abbrev pub decreases-steps_have_no_day : goal.decreases-steps_have_no_day
decreases-steps_have_no_day l = length l.steps.now
