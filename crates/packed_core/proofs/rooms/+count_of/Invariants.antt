use Rattle.std.proofs.Common.{length}
use Rattle.packed_core.proofs.rooms.+count_of.Given as goal

abbrev pub decreases-count_of : goal.decreases-count_of
decreases-count_of c = length c.steps.now
