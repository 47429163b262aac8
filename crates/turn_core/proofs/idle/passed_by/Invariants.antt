use Rattle.std.proofs.Common.{◌≡◌, drop}
use Rattle.jcl_meaning.specs.EndActs.{passed_by}
use Rattle.turn_core.proofs.idle.passed_by.Given as goal

-- what is left decides
abbrev pub invariant-loop-p : goal.invariant-loop-p
invariant-loop-p l = passed_by (drop l.p-index l.passed) l.n l.dd ≡ passed_by l.passed l.n l.dd
