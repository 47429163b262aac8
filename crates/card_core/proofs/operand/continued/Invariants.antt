use Rattle.std.proofs.Common.{◌≡◌, ◌≤◌, ◌-◌, length}
use Rattle.card_core.specs.Fields.{continued}
use Rattle.card_core.proofs.Operands.{cards_more}
use Rattle.card_core.proofs.operand.continued.Given as goal

abbrev pub invariant-loop-card : goal.invariant-loop-card
invariant-loop-card l = (length l.rest ≤ length l.cards) × (continued l.fn.before.items l.cards ≡ cards_more (length l.cards - length l.rest) (continued l.text.items l.rest))

abbrev pub decreases-loop-card : goal.decreases-loop-card
decreases-loop-card l = length l.rest
