use Rattle.keep_laws.proofs.Deciding.{keeping_is_decided}
use Rattle.keep_laws.proofs.keeping_is_decided.Goals as goal

pub returns : goal.returns
returns c = keeping_is_decided c.next_store_is_decided.ensures
