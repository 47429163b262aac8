use Rattle.std.proofs.Common.{length}
use Rattle.config_core.proofs.faults.+are_rising_from.Given as goal

abbrev pub decreases-are_rising_from : goal.decreases-are_rising_from
decreases-are_rising_from l = length l.extents.now
