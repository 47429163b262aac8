use Rattle.std.proofs.Common.{◌≡◌, ◌≤◌, length, map, take, None}
use Rattle.std.specs.Vec.{vec_capacity, vec_len}
use Rattle.sched_core.proofs.start.idle_of.Given as goal

abbrev pub invariant-loop-x : goal.invariant-loop-x
invariant-loop-x l =
    (l.initiators.items ≡ map (λ x. record { number = x.number; classes = x.classes; running = None }) (take l.x-index l.configured)) × (vec_len l.initiators ≡ l.x-index)
    × (length l.configured ≤ vec_capacity l.initiators)
