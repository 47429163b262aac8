use Rattle.std.proofs.Common.{◌≡◌, take}
use Rattle.enq_core.proofs.waits.begin_with.Given as goal

abbrev pub invariant-loop-i : goal.invariant-loop-i
invariant-loop-i l = take l.i l.wants ≡ take l.i l.noted
