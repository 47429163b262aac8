use Rattle.case_laws.proofs.Cases.{has_case}
use Rattle.case_laws.proofs.each_event_has_a_case.Goals as goal

pub returns : goal.returns
returns c = has_case
