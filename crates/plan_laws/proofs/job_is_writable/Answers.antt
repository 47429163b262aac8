use Rattle.plan_laws.proofs.SoundDecks.{job_is_writable}
use Rattle.plan_laws.proofs.job_is_writable.Goals as goal

pub returns : goal.returns
returns c = job_is_writable
