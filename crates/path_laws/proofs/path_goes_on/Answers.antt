use Rattle.path_laws.proofs.Parts.{path_goes_on}
use Rattle.path_laws.proofs.path_goes_on.Goals as goal

pub returns : goal.returns
returns c = path_goes_on
