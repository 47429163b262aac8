use Rattle.statement_laws.proofs.Merging.{by_itself_is_sound}
use Rattle.statement_laws.proofs.by_itself_is_sound.Goals as goal

pub returns : goal.returns
returns c = by_itself_is_sound
