use Rattle.world_laws.proofs.Looking.{act_looks}
use Rattle.world_laws.proofs.act_looks.Goals as goal

pub returns : goal.returns
returns c = λ fixed action store own cancel growth end. act_looks fixed store own cancel growth end action
