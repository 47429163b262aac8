use Rattle.walk_laws.proofs.faultless.Whole.{faultless_denotes}
use Rattle.walk_laws.proofs.faultless_denotes.Goals as goal

pub returns : goal.returns
returns c = faultless_denotes
