use Rattle.std.proofs.Common.{◌≡◌, ◌+◌, ◌≤◌, ◌++◌, length}
use Rattle.std.specs.Vec.{vec_capacity, vec_len}
use Rattle.std.specs.Vec.Iter.{into_iter_items}
use Rattle.sched_core.proofs.selecting.with_room.Given as goal

abbrev pub invariant-loop-line : goal.invariant-loop-line
invariant-loop-line l =
    (l.room.items ++ into_iter_items l.line-iterator ≡ l.fn.lines)
    × (vec_len l.room + length (into_iter_items l.line-iterator) ≤ vec_capacity l.room)
