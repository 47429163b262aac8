use Rattle.part_laws.proofs.PlansFit.{start_fits}
use Rattle.part_laws.proofs.start_fits.Goals as goal

pub returns : goal.returns
returns c = start_fits
