use Rattle.std.proofs.Common.{◌≡◌, ◌++◌, drop, length}
use Rattle.proc_library.specs.Lines.{cut, total}
use Rattle.proc_library.proofs.lines.lines_in.Given as goal

-- the lines that are lent and those that are left
abbrev pub invariant-loop-length : goal.invariant-loop-length
invariant-loop-length l =
    (l.lent.items ++ cut (drop l.length-index l.lengths) l.rest ≡ cut l.lengths l.bytes) × (total (drop l.length-index l.lengths) ≡ length l.rest)
