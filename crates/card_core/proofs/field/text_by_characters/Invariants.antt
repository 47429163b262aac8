use Rattle.std.proofs.Common.{◌≡◌, false, take, drop}
use Rattle.card_core.specs.Fields.{operand_text}
use Rattle.card_core.proofs.Operands.{behind_front}
use Rattle.card_core.proofs.field.text_by_characters.Given as goal

abbrev pub invariant-loop-at : goal.invariant-loop-at
invariant-loop-at l = operand_text false l.text ≡ behind_front (take l.at l.text) (operand_text l.quoted (drop l.at l.text))
