use Rattle.std.proofs.Common.{◌≡◌, ◌≤◌, ◌-◌, drop, length}
use Rattle.jcl_meaning.specs.InOrder.{first_of}
use Rattle.jcl_meaning.proofs.in_order.before.Given as goal

abbrev pub invariant-loop-low : goal.invariant-loop-low
invariant-loop-low g l = record {
  order : l.low ≤ l.high;
  within : l.high ≤ length l.list;
  skipped : first_of g.T.OfDd.step_of g.T.OfDd.dd_of (drop l.low l.list) l.step l.dd ≡ first_of g.T.OfDd.step_of g.T.OfDd.dd_of l.list l.step l.dd;
}

abbrev pub decreases-loop-low : goal.decreases-loop-low
decreases-loop-low g l = l.high - l.low
