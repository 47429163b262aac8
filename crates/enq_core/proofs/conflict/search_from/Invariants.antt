use Rattle.std.proofs.Common.{◌≤◌, length}
use Rattle.enq_core.specs.Order.{ArePassed}
use Rattle.enq_core.proofs.conflict.search_from.Given as goal

abbrev pub invariant-loop-place : goal.invariant-loop-place
invariant-loop-place l = record {
  within : l.place ≤ length l.wants;
  passed : ArePassed l.wants l.name l.place;
}
