use Rattle.path_laws.proofs.PartsLeave.{part_leaves}
use Rattle.path_laws.proofs.PartsSee.{part_sees}
use Rattle.path_laws.proofs.Before.{stands_before}
use Rattle.path_laws.proofs.Seeing.{path_sees}
use Rattle.path_laws.proofs.path_sees.Goals as goal

pub returns : goal.returns
returns c = path_sees part_sees (stands_before part_leaves)
