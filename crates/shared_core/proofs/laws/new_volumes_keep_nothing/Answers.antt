use Rattle.shared_core.proofs.Unkept.{new_keep_nothing}
use Rattle.shared_core.proofs.laws.new_volumes_keep_nothing.Goals as goal

pub returns : goal.returns
returns c = λ s a. new_keep_nothing s.volumes a
