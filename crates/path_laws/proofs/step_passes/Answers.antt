use Rattle.path_laws.proofs.Starting.{step_passes}
use Rattle.path_laws.proofs.step_passes.Goals as goal

pub returns : goal.returns
returns c = step_passes
