use Rattle.deck_places.proofs.Standing.{stands_among}
use Rattle.deck_places.proofs.laws.each_procedure_stands_in_its_deck.Goals as goal

pub returns : goal.returns
returns c statements deck name p read there = stands_among statements deck name p read there
