use Rattle.world_laws.proofs.Beside.{parts_stay}
use Rattle.world_laws.proofs.parts_stay.Goals as goal

pub returns : goal.returns
returns c = parts_stay
