use Rattle.std.proofs.Common.{◌≡◌, ◌++◌, drop}
use Rattle.jcl_meaning.specs.EndActs.{marked_later}
use Rattle.jcl_meaning.proofs.ending.marked_later.Given as goal

-- what was marked and what is left are the whole
abbrev pub invariant-loop-p : goal.invariant-loop-p
invariant-loop-p l = l.marked ++ marked_later l.n (drop l.p-index l.passed) ≡ marked_later l.n l.passed
