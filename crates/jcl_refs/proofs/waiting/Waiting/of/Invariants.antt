use Rattle.std.proofs.Common.{◌≡◌, ◌++◌, length}
use Rattle.jcl_refs.specs.Waiting.{IsWaiting, waiting}
use Rattle.jcl_refs.proofs.waiting.Waiting.of.Given as goal

abbrev pub invariant-loop-dd : goal.invariant-loop-dd
invariant-loop-dd l = record {
  is : IsWaiting l.all;
  same : l.dds.items ++ waiting l.all ≡ l.fn.dds.items;
}

abbrev pub decreases-loop-dd : goal.decreases-loop-dd
decreases-loop-dd l = length l.dds.items
