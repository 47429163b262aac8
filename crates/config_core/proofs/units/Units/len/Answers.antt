use Rattle.std.proofs.Common.{ap, length, sym, ◌∙◌}
use Rattle.config_core.proofs.Zipped.{length_of_units}
use Rattle.config_core.proofs.units.Units.len.Goals as goal

pub returns : goal.returns
returns c = c.len.ensures ∙ c.self.invariant ∙ sym (length_of_units c.self.inside.names c.self.inside.volumes.items c.self.invariant) ∙ ap length c.self.view_is
