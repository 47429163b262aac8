use Rattle.std.proofs.Common.{◌≡◌, ◌≤◌, ◌-◌, length, replicate}
use Rattle.cb_walk.proofs.marks.no_marks.Given as goal

abbrev pub invariant-loop-piece : goal.invariant-loop-piece
invariant-loop-piece l = record {
  unset : l.marks.items ≡ replicate (length l.marks.items) 0;
  few : length l.marks.items ≤ l.count;
}

abbrev pub decreases-loop-piece : goal.decreases-loop-piece
decreases-loop-piece l = l.count - length l.marks.items
