use Rattle.std.proofs.Common.{◌≤◌}
use Rattle.cb_walk.specs.Follows.{Follows, cards_from}
use Rattle.cb_walk.proofs.walk_cards.walk_cards.Given as goal

-- the walk from here on answers what the whole one does
abbrev pub invariant-loop-left : goal.invariant-loop-left
invariant-loop-left g l = record {
  within : l.read ≤ l.stated;
  goes : Follows l.fn.marks l.marks (cards_from (g.S.RecordStore.queue l.store) l.job l.fuel l.stated 0 l.first)
      (cards_from (g.S.RecordStore.queue l.store) l.job l.left l.stated l.read l.n);
}

abbrev pub decreases-loop-left : goal.decreases-loop-left
decreases-loop-left g l = l.left
