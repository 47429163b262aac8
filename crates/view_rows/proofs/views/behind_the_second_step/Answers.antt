use Rattle.std.proofs.Common.{refl}
use Rattle.jcl_meaning.specs.Acts.{act}
use Rattle.jcl_meaning.specs.Solo.{run}
use Rattle.view_rows.proofs.views.behind_the_second_step.Goals as goal

pub returns : goal.returns
unfolding run act
returns c = record { deleted = refl; not_passed = refl; bypassed = refl; there = refl; no_test_left = refl }
