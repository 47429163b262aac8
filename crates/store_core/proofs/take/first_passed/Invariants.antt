use Rattle.std.proofs.Common.{◌≡◌, drop}
use Rattle.jcl_meaning.specs.Takes.{first_passed}
use Rattle.store_core.proofs.take.first_passed.Given as goal

-- what is left decides
abbrev pub invariant-loop-p : goal.invariant-loop-p
invariant-loop-p l = first_passed (drop l.p-index l.passed) l.key ≡ first_passed l.passed l.key
