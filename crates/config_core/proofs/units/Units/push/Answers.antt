use Rattle.std.proofs.Common.{◌≡◌, ◌<◌, ◌∷◌, ◌++◌, [], ap, is_some, length, subst, sym, ◌∙◌}
use Rattle.jcl_refs.specs.Plans.{unit_number}
use Rattle.config_core.specs.Configs.{has_unit}
use Rattle.config_core.specs.Units.{units_of}
use Rattle.config_core.proofs.Zipped.{length_of_units, names_of_units, none_from_false, one_unit_more}
use Rattle.config_core.proofs.units.Units.push.Goals as goal

pub add-requires-clause-new : goal.add-requires-clause-new
add-requires-clause-new c =
    none_from_false (unit_number c.self.inside.names c.args.name)
    (ap (λ names. is_some (unit_number names c.args.name)) (sym (names_of_units c.self.inside.names c.self.inside.volumes.items c.self.invariant))
    ∙ ap (λ units. has_unit units c.args.name) c.self.view_is ∙ c.requires.new)

pub add-requires-clause-room : goal.add-requires-clause-room
add-requires-clause-room c =
    subst (λ n. n < 65535)
    (sym (c.self.invariant ∙ sym (length_of_units c.self.inside.names c.self.inside.volumes.items c.self.invariant) ∙ ap length c.self.view_is)) c.requires.room

pub returns-clause-ok : goal.returns-clause-ok
returns-clause-ok c =
    let volumes : c.push.new.self.items ≡ c.self.inside.volumes.items ++ c.args.volumes ∷ [] =
    c.in-Ok.ensures.items ∙ ap (λ vs. vs ++ c.args.volumes ∷ []) c.in_ok-reserve.ensures.items in
    (λ i. units_of (c.in_ok-add.ensures.ok i) (volumes i))
    ∙ one_unit_more c.self.inside.names c.self.inside.volumes.items c.args.name c.args.volumes c.self.invariant
    ∙ ap (λ units. units ++ record { name = c.args.name; serials = c.args.volumes } ∷ []) c.self.view_is
