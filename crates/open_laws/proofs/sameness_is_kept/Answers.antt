use Rattle.open_laws.proofs.Sameness.{sameness_is_kept}
use Rattle.open_laws.proofs.sameness_is_kept.Goals as goal

pub returns : goal.returns
returns c = sameness_is_kept
