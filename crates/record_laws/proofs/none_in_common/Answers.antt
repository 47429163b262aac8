use Rattle.record_laws.proofs.Owners.{none_in_common}
use Rattle.record_laws.proofs.none_in_common.Goals as goal

pub returns : goal.returns
returns c = none_in_common
