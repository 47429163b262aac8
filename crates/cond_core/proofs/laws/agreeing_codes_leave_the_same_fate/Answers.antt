use Rattle.cond_core.proofs.Alike.{same_fate}
use Rattle.cond_core.proofs.laws.agreeing_codes_leave_the_same_fate.Goals as goal

pub returns : goal.returns
returns c = same_fate
