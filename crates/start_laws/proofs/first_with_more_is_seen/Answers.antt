use Rattle.start_laws.proofs.Verdicts.{first_with_more_is_seen}
use Rattle.start_laws.proofs.first_with_more_is_seen.Goals as goal

pub returns : goal.returns
returns c = first_with_more_is_seen
