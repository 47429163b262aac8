use Rattle.std.proofs.Common.{refl}
use Rattle.jcl_meaning.specs.Solo.{run}
use Rattle.view_rows.proofs.views.sees_its_part.Goals as goal

pub returns : goal.returns
unfolding run
returns c = record { own = refl; expired = refl; other = refl; entered = refl; not_entered = refl; part = refl }
