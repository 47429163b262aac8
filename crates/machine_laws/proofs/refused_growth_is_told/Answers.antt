use Rattle.machine_laws.proofs.RefusedTold.{refused_growth_is_told}
use Rattle.machine_laws.proofs.refused_growth_is_told.Goals as goal

pub returns : goal.returns
returns c = refused_growth_is_told c.jobs_end_with_over.ensures c.growth_is_refused.ensures
