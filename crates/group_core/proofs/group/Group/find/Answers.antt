use Rattle.std.proofs.Common.{◌≡◌, ◌==◌, List, Some, sym, ap, subst, ◌∙◌}
use Rattle.std.specs.List.{position}
use Rattle.group_core.specs.declared.group.Generation.{Generation}
use Rattle.group_core.specs.Groups.{GroupState, serial_of}
use Rattle.group_core.proofs.Places.{serial_found, serial_missed}
use Rattle.group_core.proofs.group.Group.find.Goals as goal

pub returns-in-Some : goal.returns-in-Some
returns-in-Some c =
    let gs : List Generation = c.self.inside.generations.items in
    let p : position (λ g. g.number == c.args.number) gs ≡ Some c.in-Some.place
    = subst (λ (xs : List Generation). position (λ g. g.number == c.args.number) xs ≡ Some c.in-Some.place) c.as_slice.ensures.value (sym c.in-Some.ensures) in
    ap (λ (g : Generation). Some g.serial) c.index.ensures
    ∙ serial_found gs c.args.number c.in-Some.place c.index.result.now p
    ∙ ap (λ (s : GroupState). serial_of s.generations c.args.number) c.self.view_is

pub returns-in-None : goal.returns-in-None
returns-in-None c =
    serial_missed c.as_slice.result.now c.args.number (sym c.in-None.ensures)
    ∙ ap (λ (xs : List Generation). serial_of xs c.args.number) c.as_slice.ensures.value
    ∙ ap (λ (s : GroupState). serial_of s.generations c.args.number) c.self.view_is
