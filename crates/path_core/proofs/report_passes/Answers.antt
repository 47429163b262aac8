use Rattle.path_core.proofs.Passing.{passes}
use Rattle.path_core.proofs.report_passes.Goals as goal

pub returns : goal.returns
returns c = λ fixed plan store limit fault step dd path job fits earliest. passes fixed plan store job fits limit fault step dd path earliest
