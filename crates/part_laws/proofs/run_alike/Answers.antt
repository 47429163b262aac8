use Rattle.part_laws.proofs.RunsAlike.{run_alike}
use Rattle.part_laws.proofs.run_alike.Goals as goal

pub returns : goal.returns
returns c = run_alike
