use Rattle.std.proofs.Common.{refl}
use Rattle.jcl_meaning.specs.Acts.{act}
use Rattle.jcl_meaning.specs.Solo.{run}
use Rattle.view_rows.proofs.views.comes_later.Goals as goal

pub returns : goal.returns
unfolding run act
returns c = record { in_a_later_step = refl; in_its_own = refl; in_none = refl; by_the_conditional_word = refl; deleted = refl; not_for_a_code = refl }
