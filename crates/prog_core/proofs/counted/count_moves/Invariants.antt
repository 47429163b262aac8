use Rattle.std.proofs.Common.{◌≤◌, length}
use Rattle.jcl_meaning.specs.Programs.{moves_in}
use Rattle.prog_core.proofs.counted.count_moves.Given as goal

-- all before this one are moves
abbrev pub invariant-loop-at : goal.invariant-loop-at
invariant-loop-at l = l.at ≤ length (moves_in l.requests)
