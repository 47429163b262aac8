use Rattle.path_laws.proofs.Showing.{step_does}
use Rattle.path_laws.proofs.step_does.Goals as goal

pub returns : goal.returns
returns c = λ plan fixed k step after rest s t os ps is shows h g abend fits. step_does plan fixed k step after is rest s t os ps shows h g abend fits
