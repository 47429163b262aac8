use Rattle.extent_core.proofs.LawLemmas.{free_tracks_are_listed}
use Rattle.extent_core.proofs.laws.free_tracks_are_listed.Goals as goal

pub returns : goal.returns
returns c = free_tracks_are_listed
