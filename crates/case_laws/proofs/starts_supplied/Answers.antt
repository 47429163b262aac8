use Rattle.case_laws.proofs.Supplies.{starts_supplied}
use Rattle.case_laws.proofs.starts_supplied.Goals as goal

pub returns : goal.returns
returns c = starts_supplied
