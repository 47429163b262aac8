use Rattle.std.proofs.Common.{◌≡◌, drop, map}
use Rattle.mvt_check.specs.Brief.{column_of}
use Rattle.mvt_check.proofs.brief.column_of.Given as goal

-- the lines passed are neither findings nor marks
abbrev pub invariant-loop-line : goal.invariant-loop-line
invariant-loop-line l = column_of (drop l.line-index (map (λ line. line.now) l.lines)) ≡ column_of (map (λ line. line.now) l.lines)
