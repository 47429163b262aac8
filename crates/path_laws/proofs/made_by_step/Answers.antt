use Rattle.path_laws.proofs.Making.{made_by_step}
use Rattle.path_laws.proofs.made_by_step.Goals as goal

pub returns : goal.returns
returns c = made_by_step
