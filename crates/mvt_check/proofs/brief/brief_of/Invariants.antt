use Rattle.std.proofs.Common.{◌≡◌, ◌++◌, drop, map}
use Rattle.mvt_check.specs.Brief.{brief_of, lines_in_brief}
use Rattle.mvt_check.proofs.brief.brief_of.Given as goal

-- what is written, and what the lines left add
abbrev pub invariant-loop-n : goal.invariant-loop-n
invariant-loop-n l = l.brief.items ++ lines_in_brief (drop l.n (map (λ line. line.now) l.line-items)) ≡ brief_of l.fn.text
