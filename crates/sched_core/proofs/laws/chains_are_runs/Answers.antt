use Rattle.sched_core.proofs.Driving.{drives_run}
use Rattle.sched_core.proofs.laws.chains_are_runs.Goals as goal

pub returns : goal.returns
returns c = λ old events entries new chain. drives_run old new events entries chain
