use Rattle.cb_records.proofs.Kept.{part_stays}
use Rattle.cb_records.proofs.laws.other_fields_stay.Goals as goal

pub returns : goal.returns
returns c = part_stays
