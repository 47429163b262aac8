use Rattle.open_laws.proofs.Walked.{same_fault}
use Rattle.open_laws.proofs.first_fault_stays.Goals as goal

pub returns : goal.returns
returns c = λ l units job n old new own alike. same_fault l own units job old new alike n
