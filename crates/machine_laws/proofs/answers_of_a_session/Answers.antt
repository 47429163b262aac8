use Rattle.machine_laws.proofs.Along.{exact_along}
use Rattle.machine_laws.proofs.answers_of_a_session.Goals as goal

pub returns : goal.returns
returns c = λ o config events listing l. exact_along c.answers_are_exact.ensures l.first l.last events l.entries l.drives
