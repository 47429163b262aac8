use Rattle.turn_core.proofs.NoSets as lemma
use Rattle.turn_core.proofs.laws.none_refused.Goals as goal

pub returns : goal.returns
returns c = lemma.none_refused
