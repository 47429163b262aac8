use Rattle.std.proofs.Common.{◌≡◌, ◌<◌, take}
use Rattle.enq_core.specs.Marks.{mark_of}
use Rattle.enq_core.proofs.marked.mark_of.Given as goal

abbrev pub invariant-loop-byte : goal.invariant-loop-byte
invariant-loop-byte l = record { within : l.mark < 8192; mark : l.mark ≡ mark_of (take l.byte-index l.byte-items) }
