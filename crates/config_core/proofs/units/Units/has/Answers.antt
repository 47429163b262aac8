use Rattle.std.proofs.Common.{ap, is_some, sym, ◌∙◌}
use Rattle.jcl_refs.specs.Plans.{unit_number}
use Rattle.config_core.specs.Configs.{has_unit}
use Rattle.config_core.proofs.Zipped.{names_of_units}
use Rattle.config_core.proofs.units.Units.has.Goals as goal

pub returns : goal.returns
returns c =
    c.is_some.ensures ∙ ap is_some c.number.ensures
    ∙ ap (λ names. is_some (unit_number names c.args.name.now)) (sym (names_of_units c.self.inside.names c.self.inside.volumes.items c.self.invariant))
    ∙ ap (λ units. has_unit units c.args.name.now) c.self.view_is
