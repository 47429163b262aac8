use Rattle.std.proofs.Common.{sym}
use Rattle.jname_core.proofs.Names.{kept_from_serial}
use Rattle.value_core.proofs.Volumes.{no_serial}
use Rattle.value_core.proofs.volume_name.is_no_serial.Goals as goal

pub returns-in-Some : goal.returns-in-Some
returns-in-Some c = sym (kept_from_serial c.args.text.now c.in-Some.ensures.read.1)

pub returns-in-None : goal.returns-in-None
returns-in-None c = no_serial c.args.text.now c.in-None.ensures.read
