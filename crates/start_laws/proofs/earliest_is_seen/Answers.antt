use Rattle.start_laws.proofs.Earliest.{earliest_is_seen}
use Rattle.start_laws.proofs.earliest_is_seen.Goals as goal

pub returns : goal.returns
returns c = earliest_is_seen
