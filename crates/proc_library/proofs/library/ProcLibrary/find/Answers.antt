use Rattle.std.proofs.Common.{◌∙◌, None, Some}
use Rattle.name_places.proofs.Named.{found, not_found}
use Rattle.proc_library.proofs.Entries.{named_is}
use Rattle.proc_library.proofs.library.ProcLibrary.find.Goals as goal

pub returns-in-Some-get : goal.returns-in-Some-get
returns-in-Some-get c =
    rw (← c.self.view_is, ← c.as_slice.ensures.value)
    (found (λ e. e.procedure.name) (λ e. e.procedure) c.self.inside.list.items c.self.inside.places c.as_slice.result.now c.in-Some.place (Some c.in-Some-get.entry)
    c.self.invariant.0 c.in-Some.ensures (rw c.deref.ensures.value at c.in-Some-get.ensures.lookup)
    ∙ named_is c.self.inside.list.items c.as_slice.result.now)

pub returns-in-None-get : goal.returns-in-None-get
returns-in-None-get c =
    rw (← c.self.view_is, ← c.as_slice.ensures.value)
    (found (λ e. e.procedure.name) (λ e. e.procedure) c.self.inside.list.items c.self.inside.places c.as_slice.result.now c.in-Some.place None
    c.self.invariant.0 c.in-Some.ensures (rw c.deref.ensures.value at c.in-None-get.ensures.lookup)
    ∙ named_is c.self.inside.list.items c.as_slice.result.now)

pub returns-in-None : goal.returns-in-None
returns-in-None c =
    rw (← c.self.view_is, ← c.as_slice.ensures.value)
    (not_found (λ e. e.procedure.name) (λ e. e.procedure) c.self.inside.list.items c.self.inside.places c.as_slice.result.now c.self.invariant.0 c.in-None.ensures
    ∙ named_is c.self.inside.list.items c.as_slice.result.now)
