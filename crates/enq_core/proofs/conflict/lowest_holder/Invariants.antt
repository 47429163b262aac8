use Rattle.std.proofs.Common.{take}
use Rattle.enq_core.proofs.Alone.{IsLowestIn}
use Rattle.enq_core.proofs.conflict.lowest_holder.Given as goal

abbrev pub invariant-loop-marked : goal.invariant-loop-marked
invariant-loop-marked l = IsLowestIn (take l.marked-index l.holds) l.want l.lowest
