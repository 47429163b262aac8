use Rattle.std.proofs.Common.{◌≡◌, ◌+◌, length}
use Rattle.card_core.specs.Deck.{data_cards}
use Rattle.card_core.proofs.data.data_count.Given as goal

abbrev pub invariant-loop-card : goal.invariant-loop-card
invariant-loop-card l = length (data_cards l.opens l.cards) + length l.rest ≡ length l.cards + length (data_cards l.opens l.rest)

abbrev pub decreases-loop-card : goal.decreases-loop-card
decreases-loop-card l = length l.rest
