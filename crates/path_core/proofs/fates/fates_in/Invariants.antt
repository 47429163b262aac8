use Rattle.std.proofs.Common.{◌≡◌, take}
use Rattle.path_meaning.specs.Paths.{fates_in}
use Rattle.path_core.proofs.fates.fates_in.Given as goal

abbrev pub invariant-loop-line : goal.invariant-loop-line
invariant-loop-line l = l.fates ≡ fates_in (take l.line-index l.lines)
