use Rattle.std.proofs.Common.{◌≡◌, take}
use Rattle.view_core.proofs.again.dds_again.Given as goal

abbrev pub invariant-loop-dd : goal.invariant-loop-dd
invariant-loop-dd l = l.copy ≡ take l.dd-index l.dds
