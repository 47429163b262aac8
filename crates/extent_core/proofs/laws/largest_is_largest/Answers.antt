use Rattle.extent_core.proofs.LawLemmas.{largest_is_largest}
use Rattle.extent_core.proofs.laws.largest_is_largest.Goals as goal

pub returns : goal.returns
returns c = largest_is_largest
