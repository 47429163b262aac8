use Rattle.machine_laws.proofs.Decided.{sets_are_placed}
use Rattle.machine_laws.proofs.sets_are_placed.Goals as goal

pub returns : goal.returns
returns c = sets_are_placed
