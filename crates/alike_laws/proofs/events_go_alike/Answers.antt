use Rattle.alike_laws.proofs.Leading.{goes_alike}
use Rattle.alike_laws.proofs.events_go_alike.Goals as goal

pub returns : goal.returns
returns c = goes_alike c.first_fault_stays.ensures c.denotes_still.ensures c.sameness_is_kept.ensures
