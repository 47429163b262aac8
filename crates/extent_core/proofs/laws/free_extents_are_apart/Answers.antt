use Rattle.extent_core.proofs.LawLemmas.{free_extents_are_apart}
use Rattle.extent_core.proofs.laws.free_extents_are_apart.Goals as goal

pub returns : goal.returns
returns c = free_extents_are_apart
