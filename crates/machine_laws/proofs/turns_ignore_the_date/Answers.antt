use Rattle.machine_laws.proofs.Dating.{ignores}
use Rattle.machine_laws.proofs.turns_ignore_the_date.Goals as goal

pub returns : goal.returns
returns c = ignores
