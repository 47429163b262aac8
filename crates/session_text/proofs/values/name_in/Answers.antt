use Rattle.std.proofs.Common.{Some, ap}
use Rattle.jname_core.proofs.Names.{name8_none}
use Rattle.session_text.proofs.values.name_in.Goals as goal

pub returns-in-Ok : goal.returns-in-Ok
returns-in-Ok c = rw (name8_none c.args.text.now c.in-Ok.ensures.read.1) (ap Some c.in-Ok.ensures.read.0)
