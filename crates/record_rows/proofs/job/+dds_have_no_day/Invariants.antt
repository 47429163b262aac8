use Rattle.std.proofs.Common.{length}
use Rattle.record_rows.proofs.job.+dds_have_no_day.Given as goal

abbrev pub decreases-dds_have_no_day : goal.decreases-dds_have_no_day
decreases-dds_have_no_day l = length l.dds.now
