use Rattle.path_laws.proofs.Before.{fits_before}
use Rattle.path_laws.proofs.fits_before.Goals as goal

pub returns : goal.returns
returns c = fits_before
