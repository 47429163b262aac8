use Rattle.extent_core.proofs.ListChanges.{taken_front_leaves_the_rest}
use Rattle.extent_core.proofs.laws.taken_front_leaves_the_rest.Goals as goal

pub returns : goal.returns
returns c = taken_front_leaves_the_rest
