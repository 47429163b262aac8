use Rattle.std.proofs.Common.{sym}
use Rattle.jname_core.proofs.Names.{serial_from_kept, kept_from_serial}
use Rattle.jname_core.proofs.serial.Serial.read.Goals as goal

pub of-requires : goal.of-requires
of-requires c = serial_from_kept c.args.text.now (sym c.if-is_no_serial.ensures)

pub returns-then-is_no_serial : goal.returns-then-is_no_serial
returns-then-is_no_serial c = record { read = λ h. let e = kept_from_serial c.args.text.now h in cc (e, c.if-is_no_serial.ensures) }

pub returns-else-is_no_serial : goal.returns-else-is_no_serial
returns-else-is_no_serial c = record { read = (c.of.ensures, serial_from_kept c.args.text.now (sym c.if-is_no_serial.ensures)) }
