use Rattle.path_laws.proofs.PartsSee.{part_sees}
use Rattle.path_laws.proofs.part_sees.Goals as goal

pub returns : goal.returns
returns c = part_sees
