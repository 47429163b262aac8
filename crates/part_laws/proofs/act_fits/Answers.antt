use Rattle.part_laws.proofs.ActsFit.{act_fits}
use Rattle.part_laws.proofs.act_fits.Goals as goal

pub returns : goal.returns
returns c = act_fits
