use Rattle.std.proofs.Common.{◌≡◌, ◌++◌, length}
use Rattle.jcl_refs.specs.LaterDds.{dds_left}
use Rattle.jcl_refs.specs.Waiting.{IsWaiting, waiting}
use Rattle.jcl_refs.proofs.later_dds.dds_left.Given as goal

abbrev pub invariant-loop-dd : goal.invariant-loop-dd
invariant-loop-dd l = record {
  is : IsWaiting l.others;
  same : l.left ++ dds_left (waiting l.others) ≡ dds_left l.fn.dds;
}

abbrev pub decreases-loop-dd : goal.decreases-loop-dd
decreases-loop-dd l = length (waiting l.others)
