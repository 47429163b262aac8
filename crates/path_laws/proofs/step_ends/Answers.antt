use Rattle.std.proofs.Common.{◌+◌}
use Rattle.path_laws.proofs.StepEnding.{step_ends}
use Rattle.path_laws.proofs.step_ends.Goals as goal

pub returns : goal.returns
returns c = λ plan fixed k step after s outcomes is h clean. step_ends fixed (k + 1) step s outcomes h clean
