use Rattle.part_laws.proofs.RunsAlike.{run_fits}
use Rattle.part_laws.proofs.run_fits.Goals as goal

pub returns : goal.returns
returns c = run_fits
