use Rattle.machine_laws.proofs.Decided.{primary_is_refused}
use Rattle.machine_laws.proofs.primary_is_refused.Goals as goal

pub returns : goal.returns
returns c = primary_is_refused
