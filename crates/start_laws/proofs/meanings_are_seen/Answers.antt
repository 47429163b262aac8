use Rattle.start_laws.proofs.Meanings.{meanings_are_seen}
use Rattle.start_laws.proofs.meanings_are_seen.Goals as goal

pub returns : goal.returns
returns c = meanings_are_seen c.same_meanings.ensures
