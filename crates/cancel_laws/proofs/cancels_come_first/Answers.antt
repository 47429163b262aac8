use Rattle.cancel_laws.proofs.Fronts.{cancels_come_first}
use Rattle.cancel_laws.proofs.cancels_come_first.Goals as goal

pub returns : goal.returns
returns c = cancels_come_first
