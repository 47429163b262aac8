use Rattle.meaning_laws.proofs.Compatible.{shared}
use Rattle.meaning_laws.proofs.shared_by_both.Goals as goal

pub returns : goal.returns
returns c = shared
