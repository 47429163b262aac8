use Rattle.walk_laws.proofs.Denoted.Jobs.{denoted_has_no_fault}
use Rattle.walk_laws.proofs.denoted_has_no_fault.Goals as goal

pub returns : goal.returns
returns c = denoted_has_no_fault
