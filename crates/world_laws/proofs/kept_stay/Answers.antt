use Rattle.world_laws.proofs.Effects.{changes}
use Rattle.world_laws.proofs.TracksKept.{kept_stays}
use Rattle.world_laws.proofs.kept_stay.Goals as goal

pub returns : goal.returns
returns c = λ job_of old new e lines job on t serial. kept_stays job serial old new e on (changes job_of old new e lines t).effect
