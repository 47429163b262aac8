use Rattle.case_laws.proofs.Along.{next_case}
use Rattle.case_laws.proofs.next_event_has_a_case.Goals as goal

pub returns : goal.returns
returns c = next_case
