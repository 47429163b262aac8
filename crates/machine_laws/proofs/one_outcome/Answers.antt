use Rattle.machine_laws.proofs.OneOutcome.{one_outcome}
use Rattle.machine_laws.proofs.one_outcome.Goals as goal

pub returns : goal.returns
returns c = one_outcome c.one_listing.ensures
