use Rattle.start_laws.proofs.Verdicts.{free_is_seen}
use Rattle.start_laws.proofs.free_is_seen.Goals as goal

pub returns : goal.returns
returns c = free_is_seen
