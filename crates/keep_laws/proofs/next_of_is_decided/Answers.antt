use Rattle.keep_laws.proofs.Deciding.{next_of_is_decided}
use Rattle.keep_laws.proofs.next_of_is_decided.Goals as goal

pub returns : goal.returns
returns c = next_of_is_decided c.next_store_is_decided.ensures
