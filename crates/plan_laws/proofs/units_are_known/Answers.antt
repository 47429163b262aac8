use Rattle.plan_laws.proofs.DdFacts.{units_are_known}
use Rattle.plan_laws.proofs.units_are_known.Goals as goal

pub returns : goal.returns
returns c = units_are_known
