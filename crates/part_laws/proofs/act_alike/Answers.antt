use Rattle.part_laws.proofs.RunsAlike.{act_alike}
use Rattle.part_laws.proofs.act_alike.Goals as goal

pub returns : goal.returns
returns c = act_alike
