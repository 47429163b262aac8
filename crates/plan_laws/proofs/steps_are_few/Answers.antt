use Rattle.plan_laws.proofs.Few.{steps_are_few}
use Rattle.plan_laws.proofs.steps_are_few.Goals as goal

pub returns : goal.returns
returns c = steps_are_few
