use Rattle.shared_core.proofs.Conserving.{conserved}
use Rattle.shared_core.proofs.laws.tracks_are_conserved.Goals as goal

pub returns : goal.returns
returns c = conserved
