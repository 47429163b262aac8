use Rattle.world_laws.proofs.Beside.{running_stays}
use Rattle.world_laws.proofs.Effects.{changes}
use Rattle.world_laws.proofs.running_stays.Goals as goal

pub returns : goal.returns
returns c = λ job_of old new e lines place x at alone t. running_stays job_of old new e place x at alone (changes job_of old new e lines t).effect
