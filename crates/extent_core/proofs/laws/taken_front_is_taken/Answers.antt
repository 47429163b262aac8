use Rattle.extent_core.proofs.LawLemmas.{taken_front_is_taken}
use Rattle.extent_core.proofs.laws.taken_front_is_taken.Goals as goal

pub returns : goal.returns
returns c = taken_front_is_taken
