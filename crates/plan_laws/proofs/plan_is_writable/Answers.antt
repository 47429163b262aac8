use Rattle.plan_laws.proofs.SoundPlans.{plan_is_writable}
use Rattle.plan_laws.proofs.plan_is_writable.Goals as goal

pub returns : goal.returns
returns c = plan_is_writable
