use Rattle.std.proofs.Common.{◌≡◌, ◌==◌, ℕ, List, Option, Some, IsSome, refl, sym, ap, subst, arith, ◌∙◌}
use Rattle.std.specs.List.{position}
use Rattle.group_core.specs.declared.group.Generation.{Generation}
use Rattle.group_core.specs.Groups.{GroupState, IsFalling, serial_of, without}
use Rattle.group_core.proofs.Places.{serial_found, serial_missed, removed_there}
use Rattle.group_core.proofs.Falls.{falling_without}
use Rattle.group_core.proofs.group.Group.remove.Goals as goal

-- where it stood
there : (c : goal.After-remove) → position (λ g. g.number == c.args.number) c.self.inside.generations.items ≡ Some c.in-Some.place
there c = subst (λ (xs : List Generation). position (λ g. g.number == c.args.number) xs ≡ Some c.in-Some.place) c.as_slice.ensures.value (sym c.in-Some.ensures)

-- what the removal left
left : (c : goal.After-remove) → c.remove.new.self.items ≡ without c.self.inside.generations.items c.args.number
left c = c.remove.ensures.items ∙ removed_there c.self.inside.generations.items c.args.number c.in-Some.place (there c)

pub invariant_of-self : goal.invariant_of-self
invariant_of-self c = (
  subst (IsFalling 10000) (sym (left c)) (falling_without 10000 c.self.inside.generations.items c.args.number c.self.invariant.0),
  omega (arith, c.self.invariant.1, c.remove.ensures.capacity),
)

pub returns-in-Some-clause-ok : goal.returns-in-Some-clause-ok
returns-in-Some-clause-ok c =
    let with_these : List Generation → GroupState = λ gs. record { limit = c.self.inside.limit; scratch = c.self.inside.scratch; generations = gs } in
    ap with_these (left c) ∙ ap (λ (s : GroupState). record s { generations = without s.generations c.args.number }) c.self.view_is

pub returns-in-Some-clause-answer : goal.returns-in-Some-clause-answer
returns-in-Some-clause-answer c =
    subst (λ (s : Option (List ℕ)). IsSome s)
    (serial_found c.self.inside.generations.items c.args.number c.in-Some.place c.remove.result (there c)
    ∙ ap (λ (s : GroupState). serial_of s.generations c.args.number) c.self.view_is) refl

pub returns-in-None-clause-answer : goal.returns-in-None-clause-answer
returns-in-None-clause-answer c = (
  refl,
  sym (serial_missed c.as_slice.result.now c.args.number (sym c.in-None.ensures)
      ∙ ap (λ (xs : List Generation). serial_of xs c.args.number) c.as_slice.ensures.value
      ∙ ap (λ (s : GroupState). serial_of s.generations c.args.number) c.self.view_is),
)
