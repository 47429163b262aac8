use Rattle.config_core.proofs.Starting.{is_start_with}
use Rattle.config_core.proofs.laws.jobs_may_wait_at_the_start.Goals as goal

pub returns : goal.returns
returns c = is_start_with
