use Rattle.std.proofs.Common.{sym}
use Rattle.jname_core.proofs.Names.{name8_from_none}
use Rattle.jname_core.proofs.name8.Name8.read.Goals as goal

pub of-requires : goal.of-requires
of-requires c = name8_from_none c.args.text.now (sym c.in-None.ensures)

pub returns-in-None : goal.returns-in-None
returns-in-None c = record { read = (c.of.ensures, name8_from_none c.args.text.now (sym c.in-None.ensures)) }
