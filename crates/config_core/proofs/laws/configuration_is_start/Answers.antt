use Rattle.config_core.proofs.Starting.{is_start}
use Rattle.config_core.proofs.laws.configuration_is_start.Goals as goal

pub returns : goal.returns
returns c = is_start
