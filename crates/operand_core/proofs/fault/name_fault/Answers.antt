use Rattle.std.proofs.Common.{sym, ap}
use Rattle.jname_core.proofs.Names.{name8_none}
use Rattle.operand_core.specs.Faults.{told, as_cause}
use Rattle.operand_core.proofs.fault.name_fault.Goals as goal

pub returns-in-Ok : goal.returns-in-Ok
returns-in-Ok c = sym (ap (λ fault. told (as_cause fault)) (name8_none c.args.text.now c.in-Ok.ensures.read.1))
