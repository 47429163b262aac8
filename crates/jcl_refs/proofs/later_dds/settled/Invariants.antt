use Rattle.std.proofs.Common.{◌≡◌, ◌≤◌, ◌∷◌, length}
use Rattle.jcl_refs.specs.LaterDds.{dds_left}
use Rattle.jcl_refs.specs.Waiting.{IsWaiting, waiting}
use Rattle.jcl_refs.proofs.later_dds.settled.Given as goal

abbrev pub invariant-loop-name : goal.invariant-loop-name
invariant-loop-name l = record {
  is : IsWaiting l.others;
  fewer : length (waiting l.others) ≤ length (waiting l.fn.others);
  same : dds_left (l.dd ∷ waiting l.others) ≡ dds_left (l.fn.dd ∷ waiting l.fn.others);
}

abbrev pub decreases-loop-name : goal.decreases-loop-name
decreases-loop-name l = length (waiting l.others)
