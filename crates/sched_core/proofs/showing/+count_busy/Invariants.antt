use Rattle.std.proofs.Common.{length}
use Rattle.sched_core.proofs.showing.+count_busy.Given as goal

abbrev pub decreases-count_busy : goal.decreases-count_busy
decreases-count_busy l = length l.initiators.now
