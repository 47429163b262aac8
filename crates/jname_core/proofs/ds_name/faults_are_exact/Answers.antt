use Rattle.jname_core.proofs.Names.{name8_exact, unit_name_exact}
use Rattle.jname_core.proofs.Components.{ds_name_exact}
use Rattle.jname_core.proofs.ds_name.faults_are_exact.Goals as goal

pub returns-clause-name8 : goal.returns-clause-name8
returns-clause-name8 c = name8_exact

pub returns-clause-unit : goal.returns-clause-unit
returns-clause-unit c = unit_name_exact

pub returns-clause-ds_name : goal.returns-clause-ds_name
returns-clause-ds_name c = ds_name_exact
