use Rattle.std.proofs.Common.{◌≡◌, ◌+◌, ◌≤◌, length}
use Rattle.operand_core.specs.Operands.{places_of}
use Rattle.operand_core.proofs.subparameter.place_count.Given as goal

abbrev pub invariant-loop-behind : goal.invariant-loop-behind
invariant-loop-behind l = (l.count + length l.rest ≤ 1 + length l.text) × (length (places_of l.text) + 1 ≡ l.count + length (places_of l.rest))

abbrev pub decreases-loop-behind : goal.decreases-loop-behind
decreases-loop-behind l = length l.rest
