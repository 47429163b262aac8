use Rattle.std.proofs.Common.{◌-◌, length}
use Rattle.spool_core.specs.Places.{NoneBefore}
use Rattle.spool_core.proofs.spool.index_of.Given as goal

abbrev pub invariant-loop-index : goal.invariant-loop-index
invariant-loop-index l = NoneBefore l.class l.index l.places

abbrev pub decreases-loop-index : goal.decreases-loop-index
decreases-loop-index l = length l.places - l.index
