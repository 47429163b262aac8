use Rattle.std.proofs.Common.{◌≡◌, ◌+◌, ◌≤◌, false, length}
use Rattle.operand_core.specs.Subparameters.{closes_last}
use Rattle.operand_core.proofs.subparameter.closes_last.Given as goal

abbrev pub invariant-loop-c : goal.invariant-loop-c
invariant-loop-c l = (l.depth + length l.rest ≤ 1 + length l.text) × (closes_last false 1 l.text ≡ closes_last l.quoted l.depth l.rest)

abbrev pub decreases-loop-c : goal.decreases-loop-c
decreases-loop-c l = length l.rest
