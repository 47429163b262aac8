use Rattle.grant_laws.proofs.Granted as lemma
use Rattle.grant_laws.proofs.granted_turns.Goals as goal

pub returns : goal.returns
returns c = lemma.granted_turns
