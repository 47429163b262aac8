use Rattle.cb_records.proofs.Kept.{unused_stay_zero}
use Rattle.cb_records.proofs.laws.unused_stay_zero.Goals as goal

pub returns : goal.returns
returns c = unused_stay_zero
