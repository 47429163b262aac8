use Rattle.machine_laws.proofs.Dating.{run_ignores}
use Rattle.machine_laws.proofs.runs_ignore_the_date.Goals as goal

pub returns : goal.returns
returns c = run_ignores
