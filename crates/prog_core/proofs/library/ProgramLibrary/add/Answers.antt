use Rattle.std.proofs.Common.{List, Option, is_some, ap, ◌∙◌}
use Rattle.jcl_meaning.specs.declared.program.Request.{Request}
use Rattle.jcl_meaning.specs.Programs.{program_of}
use Rattle.name_places.proofs.Named.{names_more, new_name}
use Rattle.prog_core.proofs.library.ProgramLibrary.add.Goals as goal

pub add-requires-clause-new : goal.add-requires-clause-new
add-requires-clause-new c =
    rw c.as_slice.ensures.value
    (new_name (λ p. p.name) (λ p. p.requests) c.self.inside.list.items c.self.inside.places c.args.name c.self.invariant
    (ap (λ (found : Option (List Request)). is_some found) (ap (λ programs. program_of programs c.args.name) c.self.view_is ∙ c.requires)))

pub invariant_of-self-2 : goal.invariant_of-self-2
invariant_of-self-2 c =
    rw (c.in-Ok.ensures.items, c.in_ok-reserve.ensures.items, c.in_ok-add.ensures.ok, c.as_slice.ensures.value, c.new-counted.ensures)
    (names_more (λ p. p.name) c.self.inside.list.items c.self.inside.places (record { name = c.args.name; requests = c.args.requests }) c.self.invariant)
