use Rattle.std.proofs.Common.{◌≡◌, ◌≤◌, take, drop}
use Rattle.operand_core.specs.Operands.{places_of, parts_from}
use Rattle.operand_core.proofs.CharacterByCharacter.{behind_front}
use Rattle.operand_core.proofs.parts.part_by_characters.Given as goal

abbrev pub invariant-loop-at : goal.invariant-loop-at
invariant-loop-at l = (l.depth ≤ l.at) × (places_of l.text ≡ behind_front (take l.at l.text) (parts_from l.quoted l.depth (drop l.at l.text)))
