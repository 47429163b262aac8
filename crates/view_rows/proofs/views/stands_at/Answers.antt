use Rattle.std.proofs.Common.{refl}
use Rattle.jcl_meaning.specs.Acts.{act}
use Rattle.jcl_meaning.specs.Solo.{run}
use Rattle.view_rows.proofs.views.stands_at.Goals as goal

pub returns : goal.returns
unfolding run act
returns c = record { disposition = refl; at_the_end = refl; no_entry = refl }
