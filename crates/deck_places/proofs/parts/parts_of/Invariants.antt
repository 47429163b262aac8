use Rattle.std.proofs.Common.{◌≡◌, ◌++◌, length}
use Rattle.operand_core.specs.Operands.{places_of}
use Rattle.deck_places.proofs.parts.parts_of.Given as goal

abbrev pub invariant-loop-part : goal.invariant-loop-part
invariant-loop-part l = l.parts.items ++ l.places ≡ places_of l.fn.operand

abbrev pub decreases-loop-part : goal.decreases-loop-part
decreases-loop-part l = length l.places
