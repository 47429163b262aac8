use Rattle.world_laws.proofs.TurnsRunning.{turns_run}
use Rattle.world_laws.proofs.turns_run.Goals as goal

pub returns : goal.returns
returns c = turns_run
