use Rattle.path_laws.proofs.Fates.{tells_fates}
use Rattle.path_laws.proofs.tells_fates.Goals as goal

pub returns : goal.returns
returns c = λ fixed plan store k outcomes h clean. tells_fates fixed plan store k outcomes h
