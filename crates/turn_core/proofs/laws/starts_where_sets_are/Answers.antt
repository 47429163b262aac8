use Rattle.turn_core.proofs.Starting.{starts_there}
use Rattle.turn_core.proofs.laws.starts_where_sets_are.Goals as goal

pub returns : goal.returns
returns c = starts_there
