use Rattle.path_laws.proofs.PartsLeave.{part_leaves}
use Rattle.path_laws.proofs.Before.{stands_before}
use Rattle.path_laws.proofs.stands_before.Goals as goal

pub returns : goal.returns
returns c = stands_before part_leaves
