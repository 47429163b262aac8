use Rattle.std.proofs.Common.{◌≡◌, is_some, ap, refl, sym, ◌∙◌}
use Rattle.vtoc_core.specs.declared.entry.SetEntry.{SetEntry}
use Rattle.vtoc_core.specs.Entries.{sets_of, with_records}
use Rattle.vtoc_core.proofs.MapLemmas.{missing_is, not_changed, there_is, written_is}
use Rattle.vtoc_core.proofs.contents.put_records.Goals as goal

pub returns-in-Some-clause-there : goal.returns-in-Some-clause-there
returns-in-Some-clause-there c = sym (ap is_some (there_is c.args.sets.now.entries c.args.key.now c.in-Some.entry.now c.in-Some.ensures.value))

pub returns-in-Some-clause-put : goal.returns-in-Some-clause-put
returns-in-Some-clause-put c =
    let e : SetEntry = c.in-Some.entry.now in
    let new : SetEntry = record e { records = c.args.records } in
    written_is c.args.sets.now.entries (c.get_mut.follows.lender new).entries c.args.key.now e new (with_records (λ _. c.args.records))
    c.in-Some.ensures.value
    refl
    ((c.get_mut.follows.holds new).3 (sym (ap is_some c.in-Some.ensures.value))).0

pub returns-in-None-clause-there : goal.returns-in-None-clause-there
returns-in-None-clause-there c = sym (ap is_some (missing_is c.args.sets.now.entries c.args.key.now c.in-None.ensures.value))

pub returns-in-None-clause-put : goal.returns-in-None-clause-put
returns-in-None-clause-put c =
    let q : c.get_mut.follows.lender-at-none.entries ≡ c.args.sets.now.entries = cc in
    ap sets_of q ∙ sym (not_changed (sets_of c.args.sets.now.entries) c.args.key.now (with_records (λ _. c.args.records))
    (missing_is c.args.sets.now.entries c.args.key.now c.in-None.ensures.value))
