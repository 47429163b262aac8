use Rattle.record_laws.proofs.Chains.{one_job}
use Rattle.record_laws.proofs.one_job_is_denoted.Goals as goal

pub returns : goal.returns
returns c = one_job
