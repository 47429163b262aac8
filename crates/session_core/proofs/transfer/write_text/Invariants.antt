use Rattle.std.proofs.Common.{◌≡◌, ◌-◌, ◌≤◌, false, length, take}
use Rattle.std.specs.Io.KnownBytes.{Appends}
use Rattle.session_core.proofs.transfer.write_text.Given as goal

-- so much was taken, and no call has failed
abbrev pub invariant-loop-at : goal.invariant-loop-at
invariant-loop-at g l = record {
  within : l.at ≤ length l.text;
  written : Appends (g.W.Write.contents l.fn.sink.writer.now) (g.W.Write.contents l.sink.writer.now) (take l.at l.text);
  unfailed : l.sink.failed ≡ false;
  same : l.sink.writer.ghost_name ≡ l.fn.sink.writer.ghost_name;
}

abbrev pub decreases-loop-at : goal.decreases-loop-at
decreases-loop-at g l = length l.text - l.at
