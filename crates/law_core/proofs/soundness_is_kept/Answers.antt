use Rattle.law_core.proofs.Sound.{sound_behind}
use Rattle.law_core.proofs.soundness_is_kept.Goals as goal

pub returns : goal.returns
returns c = sound_behind
