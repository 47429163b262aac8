use Rattle.path_laws.proofs.Parts.{path_begins}
use Rattle.path_laws.proofs.path_begins.Goals as goal

pub returns : goal.returns
returns c = path_begins
