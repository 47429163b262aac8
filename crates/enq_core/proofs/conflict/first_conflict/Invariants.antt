use Rattle.std.proofs.Common.{◌≡◌, ℕ, ◌<◌, ◌≤◌, get_or, length}
use Rattle.enq_core.specs.declared.table.Hold.{Hold}
use Rattle.enq_core.specs.Order.{ArePassed, IsFirst, Meets}
use Rattle.enq_core.proofs.conflict.first_conflict.Given as goal

abbrev pub invariant-loop-marked : goal.invariant-loop-marked
invariant-loop-marked l = record {
  within : l.place ≤ length l.wants;
  passed : (k : ℕ) (d : Hold) → l.marked-index ≤ k → k < length l.holds → (get_or l.holds k d).job ≡ l.job →
      ArePassed l.wants (get_or l.holds k d).name l.place;
  found : IsFirst (Meets l.holds l.wants l.marked-index) l.found;
}
