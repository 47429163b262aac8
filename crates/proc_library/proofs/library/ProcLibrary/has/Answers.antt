use Rattle.std.proofs.Common.{Option, ℕ, is_some, ap, ◌∙◌}
use Rattle.name_places.proofs.Named.{has_named}
use Rattle.proc_library.specs.declared.library.LibraryProcedure.{LibraryProcedure}
use Rattle.proc_library.proofs.Entries.{named_is}
use Rattle.proc_library.proofs.library.ProcLibrary.has.Goals as goal

pub returns : goal.returns
returns c =
    rw (← c.self.view_is, ← c.as_slice.ensures.value)
    (c.is_some.ensures ∙ ap (λ (place : Option ℕ). is_some place) c.find.ensures
    ∙ has_named (λ e. e.procedure.name) (λ e. e.procedure) c.self.inside.list.items c.self.inside.places c.as_slice.result.now c.self.invariant.0
    ∙ ap (λ (found : Option LibraryProcedure). is_some found) (named_is c.self.inside.list.items c.as_slice.result.now))
