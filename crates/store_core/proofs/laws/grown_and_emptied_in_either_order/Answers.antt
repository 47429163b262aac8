use Rattle.store_core.proofs.Changes.{grown_and_emptied}
use Rattle.store_core.proofs.laws.grown_and_emptied_in_either_order.Goals as goal

pub returns : goal.returns
returns c = grown_and_emptied
