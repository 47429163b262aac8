use Rattle.std.proofs.Common.{ap, sym, ◌∙◌}
use Rattle.config_core.specs.Configs.{unit_volumes}
use Rattle.config_core.proofs.Zipped.{volumes_of_units}
use Rattle.config_core.proofs.units.Units.volumes.Goals as goal

pub returns : goal.returns
returns c =
    c.as_slice.ensures.value ∙ sym (volumes_of_units c.self.inside.names c.self.inside.volumes.items c.self.invariant) ∙ ap unit_volumes c.self.view_is
