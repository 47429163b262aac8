use Rattle.std.proofs.Common.{refl}
use Rattle.jcl_meaning.specs.Acts.{act}
use Rattle.jcl_meaning.specs.Solo.{run}
use Rattle.view_rows.proofs.views.makes.Goals as goal

pub returns : goal.returns
unfolding run act
returns c = record { one = refl; two = refl; flushed = refl }
