use Rattle.law_core.proofs.Waiting.{only_waits}
use Rattle.law_core.proofs.waits_change_nothing.Goals as goal

pub returns : goal.returns
returns c = λ job_of old new number job wait waits_for t. only_waits job wait waits_for job_of old new number t
