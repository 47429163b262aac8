use Rattle.deck_places.proofs.Located.{on_a_line}
use Rattle.deck_places.proofs.laws.each_called_statement_is_on_a_line.Goals as goal

pub returns : goal.returns
returns c library lines k cause place called = on_a_line library lines k cause place called
