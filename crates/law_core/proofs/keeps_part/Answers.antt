use Rattle.law_core.proofs.NextTurns.{part_kept}
use Rattle.law_core.proofs.keeps_part.Goals as goal

pub returns : goal.returns
returns c job_of old new e lines place r plan sound at named other_turn t = part_kept job_of old new e lines sound place r at plan named other_turn t
