use Rattle.std.proofs.Common.{subst, sym}
use Rattle.jname_core.specs.Grammar.{IsUnitName}
use Rattle.jname_core.proofs.Names.{unit_name_from_none}
use Rattle.jname_core.proofs.name8.UnitName.read.Goals as goal

pub invariant_of-result : goal.invariant_of-result
invariant_of-result c = subst IsUnitName (sym c.new.ensures) (unit_name_from_none c.args.text.now (sym c.in-None.ensures))

pub returns-in-None : goal.returns-in-None
returns-in-None c = record { read = (c.new.ensures, unit_name_from_none c.args.text.now (sym c.in-None.ensures)) }
