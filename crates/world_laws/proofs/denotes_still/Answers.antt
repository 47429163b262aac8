use Rattle.world_laws.proofs.Denoting.{denotes_still}
use Rattle.world_laws.proofs.denotes_still.Goals as goal

pub returns : goal.returns
returns c = λ l units old new job numbers plan own keeps denotes. denotes_still l own job old new keeps units numbers plan denotes
