use Rattle.std.proofs.Common.{◌≡◌, ◌≤◌, take}
use Rattle.play_core.specs.Texts.{feeds_in}
use Rattle.play_core.proofs.lines.feeds_in.Given as goal

abbrev pub invariant-loop-byte : goal.invariant-loop-byte
invariant-loop-byte l = record {
  counts : l.feeds ≡ feeds_in (take l.byte-index l.text);
  few : l.feeds ≤ l.byte-index;
}
