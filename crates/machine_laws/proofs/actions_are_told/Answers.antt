use Rattle.machine_laws.proofs.Decided.{actions_are_told}
use Rattle.machine_laws.proofs.actions_are_told.Goals as goal

pub returns : goal.returns
returns c = actions_are_told
