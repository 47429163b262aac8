use Rattle.std.proofs.Common.{◌≡◌, ◌-◌, ◌≤◌, ◌%◌, length}
use Rattle.session_core.proofs.transfer.blank.Given as goal

-- whole pieces were filled
abbrev pub invariant-loop-piece : goal.invariant-loop-piece
invariant-loop-piece l = record {
  within : length l.buffer.items ≤ 65536;
  whole : length l.buffer.items % 4096 ≡ 0;
}

abbrev pub decreases-loop-piece : goal.decreases-loop-piece
decreases-loop-piece l = 65536 - length l.buffer.items
