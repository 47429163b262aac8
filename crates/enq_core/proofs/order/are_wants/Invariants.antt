use Rattle.std.proofs.Common.{ℕ, ◌≡◌, ◌+◌, ◌<◌, get_or}
use Rattle.enq_core.specs.declared.table.Want.{Want}
use Rattle.enq_core.specs.Order.{IsBefore}
use Rattle.enq_core.proofs.order.are_wants.Given as goal

abbrev pub invariant-loop-i : goal.invariant-loop-i
invariant-loop-i l = (j k : ℕ) (d : Want) → k ≡ j + 1 → k < l.i → IsBefore (get_or l.wants j d).name (get_or l.wants k d).name
