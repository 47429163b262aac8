use Rattle.path_laws.proofs.Fewness.{are_few}
use Rattle.path_laws.proofs.are_few.Goals as goal

pub returns : goal.returns
returns c = are_few
