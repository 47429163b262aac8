use Rattle.cancel_laws.proofs.Events.{cancels_are_used_once}
use Rattle.cancel_laws.proofs.cancels_are_used_once.Goals as goal

pub returns : goal.returns
returns c = cancels_are_used_once
