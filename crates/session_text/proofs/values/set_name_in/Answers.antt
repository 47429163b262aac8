use Rattle.std.proofs.Common.{Some, ap}
use Rattle.jname_core.proofs.Components.{ds_name_none}
use Rattle.session_text.proofs.values.set_name_in.Goals as goal

pub returns-in-Ok : goal.returns-in-Ok
returns-in-Ok c = rw (ds_name_none 44 c.args.text.now c.in-Ok.ensures.read.1) (ap Some c.in-Ok.ensures.read.0)
