use Rattle.spelled_laws.proofs.Once.{job_is_spelled_once}
use Rattle.spelled_laws.proofs.job_is_spelled_once.Goals as goal

pub returns : goal.returns
returns c = job_is_spelled_once
