use Rattle.name_places.proofs.Named.{found, not_found}
use Rattle.prog_core.proofs.library.ProgramLibrary.find.Goals as goal

pub returns-in-Some : goal.returns-in-Some
returns-in-Some c =
    rw (← c.self.view_is, ← c.as_slice.ensures.value)
    (found (λ p. p.name) (λ p. p.requests) c.self.inside.list.items c.self.inside.places c.as_slice.result.now c.in-Some.place c.get.result
    c.self.invariant c.in-Some.ensures (rw c.deref.ensures.value at c.get.ensures.lookup))

pub returns-in-None : goal.returns-in-None
returns-in-None c =
    rw (← c.self.view_is, ← c.as_slice.ensures.value)
    (not_found (λ p. p.name) (λ p. p.requests) c.self.inside.list.items c.self.inside.places c.as_slice.result.now c.self.invariant c.in-None.ensures)
