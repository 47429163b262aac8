use Rattle.part_laws.proofs.MeaningsAlike.{path_alike}
use Rattle.part_laws.proofs.same_solo_path.Goals as goal

pub returns : goal.returns
returns c = path_alike
