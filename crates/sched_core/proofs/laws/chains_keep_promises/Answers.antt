use Rattle.sched_core.proofs.Driving.{chains_keep_promises}
use Rattle.sched_core.proofs.laws.chains_keep_promises.Goals as goal

pub returns : goal.returns
returns c = chains_keep_promises c.promises_are_kept.ensures
