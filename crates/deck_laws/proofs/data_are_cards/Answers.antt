use Rattle.deck_laws.proofs.Statements.{data_are_cards}
use Rattle.deck_laws.proofs.data_are_cards.Goals as goal

pub returns : goal.returns
returns c = data_are_cards
