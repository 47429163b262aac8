use Rattle.std.proofs.Common.{◌≡◌, take}
use Rattle.play_core.specs.Texts.{is_open}
use Rattle.play_core.proofs.lines.is_open.Given as goal

abbrev pub invariant-loop-byte : goal.invariant-loop-byte
invariant-loop-byte l = l.open ≡ is_open (take l.byte-index l.text)
