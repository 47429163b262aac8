use Rattle.next_laws.proofs.Stores as lemma
use Rattle.next_laws.proofs.next_store_is_decided.Goals as goal

pub returns : goal.returns
returns c = lemma.next_store_is_decided
