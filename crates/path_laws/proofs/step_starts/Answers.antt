use Rattle.path_laws.proofs.Starting.{step_starts}
use Rattle.path_laws.proofs.step_starts.Goals as goal

pub returns : goal.returns
returns c = step_starts
