use Rattle.std.proofs.Common.{take}
use Rattle.machine_laws.proofs.Along.{exact_along}
use Rattle.machine_laws.proofs.answers_of_a_drive.Goals as goal

pub returns : goal.returns
returns c = λ old events entries done new d. exact_along c.answers_are_exact.ensures old new (take done events) entries d.drives
