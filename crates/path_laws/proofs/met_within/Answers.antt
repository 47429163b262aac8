use Rattle.path_laws.proofs.Faults.{met_within}
use Rattle.path_laws.proofs.met_within.Goals as goal

pub returns : goal.returns
returns c = met_within
