use Rattle.std.proofs.Common.{◌≡◌, ◌++◌, drop, map}
use Rattle.mvt_check.specs.Above.{lines_above}
use Rattle.mvt_check.specs.Brief.{lines_of}
use Rattle.mvt_check.proofs.above.text_above.Given as goal

-- what is written, and what the lines left add
abbrev pub invariant-loop-line : goal.invariant-loop-line
invariant-loop-line l = l.told.items ++ lines_above (drop l.line-index (map (λ line. line.now) l.line-items)) ≡ lines_above (lines_of l.fn.own)
