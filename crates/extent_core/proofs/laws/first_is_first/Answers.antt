use Rattle.extent_core.proofs.LawLemmas.{first_is_first}
use Rattle.extent_core.proofs.laws.first_is_first.Goals as goal

pub returns : goal.returns
returns c = first_is_first
