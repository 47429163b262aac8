use Rattle.std.proofs.Common.{refl}
use Rattle.jcl_meaning.specs.Acts.{act}
use Rattle.jcl_meaning.specs.Solo.{run}
use Rattle.view_rows.proofs.views.without_a_way_on.Goals as goal

pub returns : goal.returns
unfolding run act
returns c = record { missed = refl; place = refl; found = refl }
