use Rattle.std.proofs.Common.{◌≡◌, ◌+◌, ◌-◌, ◌≤◌, reverse}
use Rattle.cb_queue.proofs.list_store.all_numbers.Given as goal
use Rattle.plain.specs.Lists.{numbers_from}

abbrev pub invariant-loop-n : goal.invariant-loop-n
invariant-loop-n l = record { few : l.n ≤ l.count; items : l.numbers.items ≡ reverse (numbers_from (l.n + 1) (l.count - l.n)) }

abbrev pub decreases-loop-n : goal.decreases-loop-n
decreases-loop-n l = l.n
