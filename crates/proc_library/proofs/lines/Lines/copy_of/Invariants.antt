use Rattle.std.proofs.Common.{◌≡◌, take}
use Rattle.proc_library.proofs.lines.Lines.copy_of.Given as goal

abbrev pub invariant-loop-line : goal.invariant-loop-line
invariant-loop-line l = l.copies ≡ take l.line-index l.lines
