use Rattle.law_core.proofs.Starting.{starts_sound}
use Rattle.law_core.proofs.starts_sound.Goals as goal

pub returns : goal.returns
returns c = starts_sound
