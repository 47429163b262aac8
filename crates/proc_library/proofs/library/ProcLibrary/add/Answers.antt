use Rattle.std.proofs.Common.{◌∙◌, ◌++◌, ◌∷◌, [], List, ap, sym}
use Rattle.name_places.proofs.Named.{new_name}
use Rattle.proc_library.specs.declared.library.Entry.{Entry}
use Rattle.proc_library.proofs.Entries.{kept_more}
use Rattle.proc_library.proofs.Entries.{named_is}
use Rattle.proc_library.proofs.library.ProcLibrary.add.Goals as goal

pub add-requires-clause-new : goal.add-requires-clause-new
add-requires-clause-new c =
    rw c.as_slice.ensures.value
    (new_name (λ e. e.procedure.name) (λ e. e.procedure) c.self.inside.list.items c.self.inside.places c.args.name c.self.invariant.0
    (rw (named_is c.self.inside.list.items c.args.name) (rw c.self.view_is c.requires)))

pub invariant_of-self-2 : goal.invariant_of-self-2
invariant_of-self-2 c =
    let entry : Entry = record { procedure = record { name = c.args.name; lines = c.in_ok-lines.lines }; reading = c.in_ok-lines.reading } in
    kept_more c.self.inside.list.items c.push.new.self.items c.self.inside.places c.add.new.self entry c.as_slice.result.now c.self.invariant.0 c.self.invariant.1
    (c.in-Ok.ensures.items ∙ ap (λ (entries : List Entry). entries ++ entry ∷ []) c.in_ok-reserve.ensures.items)
    c.in_ok-add.ensures.ok (sym c.as_slice.ensures.value) c.in_ok-lines.ensures.reading
