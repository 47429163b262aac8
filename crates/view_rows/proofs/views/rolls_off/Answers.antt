use Rattle.std.proofs.Common.{refl}
use Rattle.jcl_meaning.specs.Acts.{act}
use Rattle.jcl_meaning.specs.Solo.{run}
use Rattle.view_rows.proofs.views.rolls_off.Goals as goal

pub returns : goal.returns
unfolding run act
returns c = record { numbers = refl; entered = refl; stays = refl; scratched = refl; numbers_so = refl; kept = refl }
