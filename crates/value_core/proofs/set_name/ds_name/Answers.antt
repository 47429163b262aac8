use Rattle.std.proofs.Common.{ap}
use Rattle.jname_core.proofs.Components.{ds_name_none}
use Rattle.operand_core.specs.Faults.{as_cause, told}
use Rattle.value_core.specs.SetNames.{ds_name}
use Rattle.value_core.proofs.Both.{whole_is}
use Rattle.value_core.proofs.set_name.ds_name.Goals as goal

pub returns-in-Ok : goal.returns-in-Ok
returns-in-Ok c =
    whole_is (ds_name c.args.text.now) c.in-Ok.ensures.read.0
    (ap (λ fault. told (as_cause fault)) (ds_name_none 44 c.args.text.now c.in-Ok.ensures.read.1))
