use Rattle.turn_core.proofs.MachineTurns.{waits_advances}
use Rattle.turn_core.proofs.laws.waits_advance.Goals as goal

pub returns : goal.returns
returns c = waits_advances
