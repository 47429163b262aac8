use Rattle.std.proofs.Common.{◌≡◌, false, length}
use Rattle.card_core.specs.Deck.{statements_behind}
use Rattle.card_core.specs.Reading.{behind_others}
use Rattle.card_core.proofs.read.statements.Given as goal

abbrev pub invariant-loop-card : goal.invariant-loop-card
invariant-loop-card l = statements_behind false 0 l.fn.cards ≡ behind_others l.out.items (statements_behind l.called 0 l.rest)

abbrev pub decreases-loop-card : goal.decreases-loop-card
decreases-loop-card l = length l.rest
