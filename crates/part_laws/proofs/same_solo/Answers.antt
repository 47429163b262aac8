use Rattle.part_laws.proofs.MeaningsAlike.{solo_alike}
use Rattle.part_laws.proofs.same_solo.Goals as goal

pub returns : goal.returns
returns c = solo_alike
