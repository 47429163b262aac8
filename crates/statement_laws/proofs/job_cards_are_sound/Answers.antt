use Rattle.statement_laws.proofs.Jobs.{job_cards_are_sound}
use Rattle.statement_laws.proofs.job_cards_are_sound.Goals as goal

pub returns : goal.returns
returns c = job_cards_are_sound
