use Rattle.turn_laws.proofs.Ends.{jobs_end_with_over}
use Rattle.turn_laws.proofs.jobs_end_with_over.Goals as goal

pub returns : goal.returns
returns c = jobs_end_with_over
