use Rattle.path_laws.proofs.Paths.{clean_by_programs}
use Rattle.law_core.proofs.Promising.{promised}
use Rattle.law_core.proofs.Sound.{sound_along}
use Rattle.law_core.proofs.Starting.{starts_sound}
use Rattle.law_core.proofs.assured_run.Goals as goal

pub returns : goal.returns
returns c = λ job_of start w v before e told job tracks stated is_start runs assured.
    promised clean_by_programs job_of w v e job tracks stated (sound_along job_of start w before told (starts_sound start is_start) runs) assured
