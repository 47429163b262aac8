use Rattle.std.proofs.Common.{ap, sym, ◌∙◌}
use Rattle.config_core.specs.Configs.{unit_names}
use Rattle.config_core.proofs.Zipped.{names_of_units}
use Rattle.config_core.proofs.units.Units.names.Goals as goal

pub returns : goal.returns
returns c = sym (names_of_units c.self.inside.names c.self.inside.volumes.items c.self.invariant) ∙ ap unit_names c.self.view_is
