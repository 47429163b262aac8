use Rattle.turn_core.proofs.MachineTurns.{acts_advances}
use Rattle.turn_core.proofs.laws.acts_advance.Goals as goal

pub returns : goal.returns
returns c = acts_advances
