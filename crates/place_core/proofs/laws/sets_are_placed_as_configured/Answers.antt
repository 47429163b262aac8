use Rattle.place_core.proofs.Configured.{are_places}
use Rattle.place_core.proofs.laws.sets_are_placed_as_configured.Goals as goal

pub returns : goal.returns
returns c = are_places
