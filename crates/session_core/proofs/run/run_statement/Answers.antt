use Rattle.session_core.proofs.Leaving.{nothing_left}
use Rattle.session_core.proofs.run.run_statement.Goals as goal

pub returns-in_default-clause-left : goal.returns-in_default-clause-left
returns-in_default-clause-left c = nothing_left _ _

pub returns-in-Refused-clause-left : goal.returns-in-Refused-clause-left
returns-in-Refused-clause-left c = nothing_left _ _

pub returns-in-Some-clause-left : goal.returns-in-Some-clause-left
returns-in-Some-clause-left c = nothing_left _ _
