use Rattle.std.proofs.Common.{◌≡◌, ◌≤◌, ◌++◌, length, reverse}
use Rattle.path_search.specs.Trails.{path_at}
use Rattle.path_search.proofs.trail.path_to.Given as goal

abbrev pub invariant-loop-left : goal.invariant-loop-left
invariant-loop-left l = record {
  left : l.left ≤ length l.levels;
  path : path_at l.levels l.left l.at ++ reverse l.path.items ≡ path_at l.levels (length l.levels) l.number;
}

abbrev pub decreases-loop-left : goal.decreases-loop-left
decreases-loop-left l = l.left
