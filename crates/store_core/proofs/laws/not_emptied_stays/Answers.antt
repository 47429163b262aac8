use Rattle.store_core.proofs.Changes.{not_emptied}
use Rattle.store_core.proofs.laws.not_emptied_stays.Goals as goal

pub returns : goal.returns
returns c = not_emptied
