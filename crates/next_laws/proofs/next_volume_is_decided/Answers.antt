use Rattle.next_laws.proofs.Volumes as lemma
use Rattle.next_laws.proofs.next_volume_is_decided.Goals as goal

pub returns : goal.returns
returns c = lemma.next_volume_is_decided
