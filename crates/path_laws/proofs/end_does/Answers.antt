use Rattle.path_laws.proofs.Showing.{end_does}
use Rattle.path_laws.proofs.end_does.Goals as goal

pub returns : goal.returns
returns c = end_does
