use Rattle.std.proofs.Common.{◌≡◌, []}
use Rattle.jcl_refs.specs.Waiting.{IsWaiting, waiting}
use Rattle.jcl_refs.proofs.waiting.Waiting.next_named.Given as goal

abbrev pub invariant-loop-name : goal.invariant-loop-name
invariant-loop-name l = record {
  is : IsWaiting l.self;
  none : l.self.next.items ≡ [];
  same : waiting l.self ≡ waiting l.fn.self;
}

abbrev pub decreases-loop-name : goal.decreases-loop-name
decreases-loop-name l = goal.left-loop-name l
