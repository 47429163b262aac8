use Rattle.path_laws.proofs.Parts.{path_ends}
use Rattle.path_laws.proofs.path_ends.Goals as goal

pub returns : goal.returns
returns c = path_ends
