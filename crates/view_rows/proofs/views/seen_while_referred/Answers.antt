use Rattle.std.proofs.Common.{refl}
use Rattle.jcl_meaning.specs.Acts.{act}
use Rattle.jcl_meaning.specs.Solo.{run}
use Rattle.view_rows.proofs.views.seen_while_referred.Goals as goal

pub returns : goal.returns
unfolding run act
returns c = record { before = refl; between = refl; behind = refl }
