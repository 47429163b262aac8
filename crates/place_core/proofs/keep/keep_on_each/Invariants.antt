use Rattle.place_core.proofs.KeepingOn.{KeptUpTo}
use Rattle.place_core.proofs.keep.keep_on_each.Given as goal

abbrev pub invariant-loop-i : goal.invariant-loop-i
invariant-loop-i l = KeptUpTo l.job l.plan l.places l.fn.volumes l.i l.volumes
