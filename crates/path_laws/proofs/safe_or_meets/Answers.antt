use Rattle.path_laws.proofs.PartsLeave.{part_leaves}
use Rattle.path_laws.proofs.PartsSee.{part_sees}
use Rattle.path_laws.proofs.Before.{stands_before}
use Rattle.path_laws.proofs.Deciding.{decided}
use Rattle.path_laws.proofs.Parts.{path_ends}
use Rattle.path_laws.proofs.safe_or_meets.Goals as goal

pub returns : goal.returns
returns c = decided part_sees (stands_before part_leaves) path_ends
