use Rattle.path_laws.proofs.Making.{none_made_at_end}
use Rattle.path_laws.proofs.none_made_at_end.Goals as goal

pub returns : goal.returns
returns c = none_made_at_end
