use Rattle.std.proofs.Common.{Some, refl, ap}
use Rattle.jname_core.specs.Faults.{is_no_serial}
use Rattle.jname_core.proofs.Names.{kept_from_serial}
use Rattle.session_text.proofs.Serials.{refused}
use Rattle.session_text.proofs.values.serial_in.Goals as goal

pub returns-in-None : goal.returns-in-None
returns-in-None c = rw (refused c.args.text.now (is_no_serial c.args.text.now) refl c.in-None.ensures.read)

pub returns-in-Some : goal.returns-in-Some
returns-in-Some c = rw (kept_from_serial c.args.text.now c.in-Some.ensures.read.1) (ap Some c.in-Some.ensures.read.0)
