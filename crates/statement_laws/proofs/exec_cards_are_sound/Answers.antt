use Rattle.statement_laws.proofs.Execs.{exec_cards_are_sound}
use Rattle.statement_laws.proofs.exec_cards_are_sound.Goals as goal

pub returns : goal.returns
returns c = exec_cards_are_sound
