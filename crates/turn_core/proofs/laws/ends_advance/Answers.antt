use Rattle.turn_core.proofs.MachineTurns.{ends_advances}
use Rattle.turn_core.proofs.laws.ends_advance.Goals as goal

pub returns : goal.returns
returns c = ends_advances
