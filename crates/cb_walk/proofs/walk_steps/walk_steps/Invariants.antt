use Rattle.std.proofs.Common.{◌≤◌, [], length}
use Rattle.cb_walk.specs.Follows.{Follows}
use Rattle.cb_walk.specs.Steps.{steps_from}
use Rattle.cb_walk.proofs.walk_steps.walk_steps.Given as goal

-- the walk from here on answers what the whole one does
abbrev pub invariant-loop-left : goal.invariant-loop-left
invariant-loop-left g l = record {
  few : length l.steps ≤ (g.S.RecordStore.queue l.store).layout.most_steps;
  goes : Follows l.fn.marks l.marks (steps_from (g.S.RecordStore.queue l.store) l.units l.job l.fuel l.stated [] l.first)
      (steps_from (g.S.RecordStore.queue l.store) l.units l.job l.left l.stated l.steps l.n);
}

abbrev pub decreases-loop-left : goal.decreases-loop-left
decreases-loop-left g l = l.left
