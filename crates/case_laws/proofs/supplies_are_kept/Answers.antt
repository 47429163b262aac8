use Rattle.case_laws.proofs.Supplies.{supplied_behind}
use Rattle.case_laws.proofs.supplies_are_kept.Goals as goal

pub returns : goal.returns
returns c = supplied_behind
