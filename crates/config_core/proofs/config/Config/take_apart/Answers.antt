use Rattle.config_core.proofs.Starting.{nothing_on}
use Rattle.config_core.proofs.config.Config.take_apart.Goals as goal

pub returns-clause-kept : goal.returns-clause-kept
returns-clause-kept c = nothing_on c.self.inside.volumes c.self.invariant.kept
