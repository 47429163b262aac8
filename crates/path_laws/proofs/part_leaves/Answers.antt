use Rattle.path_laws.proofs.PartsLeave.{part_leaves}
use Rattle.path_laws.proofs.part_leaves.Goals as goal

pub returns : goal.returns
returns c = part_leaves
