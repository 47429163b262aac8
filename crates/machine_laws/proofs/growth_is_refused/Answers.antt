use Rattle.machine_laws.proofs.Decided.{growth_is_refused}
use Rattle.machine_laws.proofs.growth_is_refused.Goals as goal

pub returns : goal.returns
returns c = growth_is_refused
