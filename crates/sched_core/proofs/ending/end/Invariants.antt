use Rattle.std.specs.Vec.{vec_len}
use Rattle.sched_core.proofs.ending.end.Given as goal

abbrev pub invariant-loop-x : goal.invariant-loop-x
invariant-loop-x g l = Unit {0}

abbrev pub decreases-loop-x : goal.decreases-loop-x
decreases-loop-x g l = vec_len l.initiators
