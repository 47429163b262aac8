use Rattle.part_laws.proofs.MeaningsAlike.{same_meanings}
use Rattle.part_laws.proofs.same_meanings.Goals as goal

pub returns : goal.returns
returns c = same_meanings
