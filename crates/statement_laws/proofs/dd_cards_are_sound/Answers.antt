use Rattle.statement_laws.proofs.Dds.{dd_cards_are_sound}
use Rattle.statement_laws.proofs.dd_cards_are_sound.Goals as goal

pub returns : goal.returns
returns c = dd_cards_are_sound
