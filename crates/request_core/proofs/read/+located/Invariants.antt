use Rattle.std.proofs.Common.{◌-◌}
use Rattle.request_core.proofs.read.+located.Given as goal

abbrev pub decreases-located : goal.decreases-located
decreases-located g l = l.of.now.end - l.n
