use Rattle.std.proofs.Common.{Option, ℕ, is_some, ap, ◌∙◌}
use Rattle.name_places.proofs.Named.{has_named}
use Rattle.prog_core.proofs.library.ProgramLibrary.has.Goals as goal

pub returns : goal.returns
returns c =
    rw (← c.self.view_is, ← c.as_slice.ensures.value)
    (c.is_some.ensures ∙ ap (λ (place : Option ℕ). is_some place) c.find.ensures
    ∙ has_named (λ p. p.name) (λ p. p.requests) c.self.inside.list.items c.self.inside.places c.as_slice.result.now c.self.invariant)
