use Rattle.std.proofs.Common.{◌≡◌, is_some, ap, refl, sym, ◌∙◌}
use Rattle.vtoc_core.specs.declared.entry.SetEntry.{SetEntry}
use Rattle.vtoc_core.specs.Entries.{sets_of, with_extents}
use Rattle.vtoc_core.proofs.MapLemmas.{missing_is, not_changed, written_is}
use Rattle.vtoc_core.proofs.contents.set_extents.Goals as goal

pub returns-in-Some : goal.returns-in-Some
returns-in-Some c =
    let e : SetEntry = c.in-Some.entry.now in
    let new : SetEntry = record e { extents = c.args.extents } in
    written_is c.args.sets.now.entries (c.get_mut.follows.lender new).entries c.args.key.now e new (with_extents (λ _. c.args.extents.items))
    c.in-Some.ensures.value refl
    ((c.get_mut.follows.holds new).3 (sym (ap is_some c.in-Some.ensures.value))).0

pub returns-in-None : goal.returns-in-None
returns-in-None c =
    let q : c.get_mut.follows.lender-at-none.entries ≡ c.args.sets.now.entries = cc in
    ap sets_of q ∙ sym (not_changed (sets_of c.args.sets.now.entries) c.args.key.now (with_extents (λ _. c.args.extents.items))
    (missing_is c.args.sets.now.entries c.args.key.now c.in-None.ensures.value))
