use Rattle.std.proofs.Common.{◌≡◌, false, drop}
use Rattle.operand_core.specs.Values.{enclosed}
use Rattle.operand_core.proofs.CharacterByCharacter.{text_behind}
use Rattle.operand_core.proofs.value.enclosed.Given as goal

abbrev pub invariant-loop-c : goal.invariant-loop-c
invariant-loop-c l = enclosed false l.text ≡ text_behind l.found.items (enclosed l.begun (drop l.c-index l.text))
