use Rattle.std.proofs.Common.{ap}
use Rattle.jcl_dds.specs.Dds.{dd_names}
use Rattle.jcl_dds.proofs.Beside.{err_told, ok_told, ok_value}
use Rattle.jcl_dds.proofs.dd.names_of.Goals as goal

pub returns-in-Ok-clause-told : goal.returns-in-Ok-clause-told
returns-in-Ok-clause-told c = ok_told (dd_names c.args.name.now) c.dd_names.ensures c.in-Ok.is

pub returns-in-Ok-clause-qualifier : goal.returns-in-Ok-clause-qualifier
returns-in-Ok-clause-qualifier c = λ none. ap (λ names. names.0) (ok_value (dd_names c.args.name.now) c.dd_names.ensures c.in-Ok.is)

pub returns-in-Ok-clause-name : goal.returns-in-Ok-clause-name
returns-in-Ok-clause-name c = λ none. ap (λ names. names.1) (ok_value (dd_names c.args.name.now) c.dd_names.ensures c.in-Ok.is)

pub returns-in-Err-clause-told : goal.returns-in-Err-clause-told
returns-in-Err-clause-told c = err_told (dd_names c.args.name.now) c.dd_names.ensures c.in-Err.is
