use Rattle.path_core.proofs.Ending.{ends}
use Rattle.path_core.proofs.explanations_end.Goals as goal

pub returns : goal.returns
returns c = λ fixed plan store limit fault step dd path job fits earliest. ends fixed plan store limit fault step dd path job fits earliest
