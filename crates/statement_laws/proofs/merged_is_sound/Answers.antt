use Rattle.statement_laws.proofs.Merging.{merged_is_sound}
use Rattle.statement_laws.proofs.merged_is_sound.Goals as goal

pub returns : goal.returns
returns c = merged_is_sound
