use Rattle.start_laws.proofs.Lines.{path_is_seen}
use Rattle.start_laws.proofs.path_is_seen.Goals as goal

pub returns : goal.returns
returns c = path_is_seen
