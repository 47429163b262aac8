use Rattle.std.proofs.Common.{◌≡◌, ◌+◌, ◌≤◌, length, map, take}
use Rattle.std.specs.Vec.{vec_capacity, vec_len}
use Rattle.machine_core.specs.Events.{line_of}
use Rattle.machine_core.proofs.events.show.Given as goal

abbrev pub invariant-loop-m : goal.invariant-loop-m
invariant-loop-m g l =
    (l.lines.items ≡ map line_of (take l.m-index l.volumes)) × (vec_len l.lines ≡ l.m-index) × (length l.volumes + 1 ≤ vec_capacity l.lines)
