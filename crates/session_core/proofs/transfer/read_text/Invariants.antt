use Rattle.std.proofs.Common.{◌≡◌, ◌-◌, ◌≤◌, ◌<◌, false, length}
use Rattle.std.specs.Io.KnownBytes.{Consumes}
use Rattle.session_core.proofs.transfer.read_text.Given as goal

-- so much was read, and no call has failed
abbrev pub invariant-loop-buffer : goal.invariant-loop-buffer
invariant-loop-buffer g l = record {
  within : length l.text.items ≤ 1048577;
  room : 0 < length l.buffer;
  read : Consumes (g.R.Read.remaining l.fn.source.reader.now) (g.R.Read.remaining l.source.reader.now) l.text.items;
  unfailed : l.source.failed ≡ false;
  same : l.source.reader.ghost_name ≡ l.fn.source.reader.ghost_name;
}

abbrev pub decreases-loop-buffer : goal.decreases-loop-buffer
decreases-loop-buffer g l = 1048577 - length l.text.items
