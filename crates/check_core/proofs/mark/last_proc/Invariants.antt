use Rattle.check_core.specs.Spots.{IsAtFirst}
use Rattle.check_core.proofs.mark.last_proc.Given as goal

abbrev pub invariant-loop-n : goal.invariant-loop-n
invariant-loop-n l = IsAtFirst l.begun l.last
