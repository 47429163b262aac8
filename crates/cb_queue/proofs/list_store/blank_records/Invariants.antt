use Rattle.std.proofs.Common.{◌≡◌, ◌≤◌, ◌-◌, length, replicate}
use Rattle.cb_queue.proofs.list_store.blank_records.Given as goal

abbrev pub invariant-loop-piece : goal.invariant-loop-piece
invariant-loop-piece l = record {
  zeros : l.records.items ≡ replicate (length l.records.items) (replicate 176 0);
  few : length l.records.items ≤ l.count;
}

abbrev pub decreases-loop-piece : goal.decreases-loop-piece
decreases-loop-piece l = l.count - length l.records.items
