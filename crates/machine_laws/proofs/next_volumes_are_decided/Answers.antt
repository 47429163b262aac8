use Rattle.machine_laws.proofs.Next as lemma
use Rattle.machine_laws.proofs.next_volumes_are_decided.Goals as goal

pub returns : goal.returns
returns c = lemma.next_volumes_are_decided c.next_store_is_decided.ensures
