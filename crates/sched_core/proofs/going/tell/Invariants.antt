use Rattle.std.proofs.Common.{◌≡◌, ◌+◌, ◌++◌, take}
use Rattle.std.specs.Vec.{vec_capacity, vec_len}
use Rattle.world_meaning.specs.Worlds.{of_job}
use Rattle.sched_core.proofs.going.tell.Given as goal

abbrev pub invariant-loop-line : goal.invariant-loop-line
invariant-loop-line l =
    (l.entries.items ≡ l.fn.entries.items ++ of_job l.job (take l.line-index l.lines)) × (vec_len l.entries ≡ vec_len l.fn.entries + l.line-index)
    × (vec_capacity l.entries ≡ vec_capacity l.fn.entries)
