use Rattle.jname_core.proofs.Suffixes.{name_exact}
use Rattle.jname_core.proofs.ds_name.generations_are_exact.Goals as goal

pub returns-clause-name : goal.returns-clause-name
returns-clause-name c = name_exact
