use Rattle.std.proofs.Common.{[]}
use Rattle.cb_walk.specs.Dds.{dds_from}
use Rattle.cb_walk.specs.Follows.{Follows}
use Rattle.cb_walk.proofs.walk_dds.walk_dds.Given as goal

-- the walk from here on answers what the whole one does
abbrev pub invariant-loop-left : goal.invariant-loop-left
invariant-loop-left g l =
    Follows l.fn.marks l.marks (dds_from (g.S.RecordStore.queue l.store) l.units l.job l.fuel l.stated l.steps [] l.first)
    (dds_from (g.S.RecordStore.queue l.store) l.units l.job l.left l.stated l.steps l.dds l.n)

abbrev pub decreases-loop-left : goal.decreases-loop-left
decreases-loop-left g l = l.left
