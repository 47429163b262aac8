use Rattle.std.proofs.Common.{subst}
use Rattle.path_laws.proofs.Paths.{clean_by_programs}
use Rattle.world_meaning.specs.Transitions.{Transition}
use Rattle.law_core.proofs.AssuredAlone.{assured_alone}
use Rattle.law_core.proofs.Promising.{promised}
use Rattle.law_core.proofs.Sound.{sound_along}
use Rattle.law_core.proofs.Starting.{starts_sound}
use Rattle.law_core.proofs.promises_are_kept.Goals as goal

pub returns : goal.returns
returns c = λ job_of start w v before told e lines job tracks stated is_start runs t there.
    promised clean_by_programs job_of w v e job tracks stated (sound_along job_of start w before told (starts_sound start is_start) runs)
    (subst (λ ls. Transition job_of w e ls v) (assured_alone job_of w v e lines job tracks stated t there) t)
