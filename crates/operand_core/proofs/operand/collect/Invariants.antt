use Rattle.std.proofs.Common.{◌≡◌, true}
use Rattle.std.specs.Option.{option_copied}
use Rattle.operand_core.specs.Operands.{places_of}
use Rattle.operand_core.specs.Reading.{all_parts, parts_in}
use Rattle.operand_core.specs.Subparameters.{places_left}
use Rattle.operand_core.proofs.Collected.{behind, characters_left}
use Rattle.operand_core.proofs.operand.collect.Given as goal

abbrev pub invariant-loop-left : goal.invariant-loop-left
invariant-loop-left l = all_parts (places_of l.operand) ≡ behind (parts_in l.found) (places_left true (option_copied l.left))

abbrev pub decreases-loop-left : goal.decreases-loop-left
decreases-loop-left l = characters_left (option_copied l.left)
