use Rattle.std.proofs.Common.{◌≤◌, drop, length}
use Rattle.jcl_dds.specs.DdKeys.{AreRead}
use Rattle.jcl_dds.proofs.dd_keywords.read_keywords.Given as goal

abbrev pub invariant-loop-at : goal.invariant-loop-at
invariant-loop-at l = (l.at ≤ length l.keywords) × AreRead l.card l.faults (drop l.at l.keywords)

abbrev pub decreases-loop-at : goal.decreases-loop-at
decreases-loop-at l = l.at
