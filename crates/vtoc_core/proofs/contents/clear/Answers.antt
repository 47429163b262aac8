use Rattle.std.proofs.Common.{◌≡◌, [], List, ℕ, is_some, ap, sym, ◌∙◌}
use Rattle.vtoc_core.specs.declared.entry.SetEntry.{SetEntry}
use Rattle.vtoc_core.specs.Entries.{sets_of, with_records}
use Rattle.vtoc_core.proofs.MapLemmas.{missing_is, not_changed, there_is, written_is}
use Rattle.vtoc_core.proofs.contents.clear.Goals as goal

pub returns-in-Some-clause-there : goal.returns-in-Some-clause-there
returns-in-Some-clause-there c = sym (ap is_some (there_is c.args.sets.now.entries c.args.key.now c.in-Some.entry.now c.in-Some.ensures.value))

pub returns-in-Some-clause-cleared : goal.returns-in-Some-clause-cleared
returns-in-Some-clause-cleared c =
    let e : SetEntry = c.in-Some.entry.now in
    let new : SetEntry = record e { records = c.clear.new.self } in
    written_is c.args.sets.now.entries (c.get_mut.follows.lender new).entries c.args.key.now e new (with_records (λ _. []))
    c.in-Some.ensures.value
    (ap (λ (rs : List (List ℕ)). record e { records = rs }) c.clear.ensures)
    ((c.get_mut.follows.holds new).3 (sym (ap is_some c.in-Some.ensures.value))).0

pub returns-in-None-clause-there : goal.returns-in-None-clause-there
returns-in-None-clause-there c = sym (ap is_some (missing_is c.args.sets.now.entries c.args.key.now c.in-None.ensures.value))

pub returns-in-None-clause-cleared : goal.returns-in-None-clause-cleared
returns-in-None-clause-cleared c =
    let q : c.get_mut.follows.lender-at-none.entries ≡ c.args.sets.now.entries = cc in
    ap sets_of q ∙ sym (not_changed (sets_of c.args.sets.now.entries) c.args.key.now (with_records (λ _. []))
    (missing_is c.args.sets.now.entries c.args.key.now c.in-None.ensures.value))
