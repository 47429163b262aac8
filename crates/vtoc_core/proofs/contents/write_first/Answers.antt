use Rattle.std.proofs.Common.{◌∷◌, [], List, ℕ, is_some, ap, sym}
use Rattle.vtoc_core.specs.declared.entry.SetEntry.{SetEntry}
use Rattle.vtoc_core.specs.Entries.{with_records}
use Rattle.vtoc_core.proofs.MapLemmas.{missing_is, there_is, unwritten_is, written_is}
use Rattle.vtoc_core.proofs.contents.write_first.Goals as goal

pub returns-in-Ok-clause-ok : goal.returns-in-Ok-clause-ok
returns-in-Ok-clause-ok c =
    let e : SetEntry = c.in-Some.entry.now in
    let new : SetEntry = record e { records = c.write_first.new.self } in
    written_is c.args.sets.now.entries (c.get_mut.follows.lender new).entries c.args.key.now e new (with_records (λ _. c.args.columns ∷ []))
    c.in-Some.ensures.value
    (ap (λ (rs : List (List ℕ)). record e { records = rs }) c.in-Ok.ensures.ok)
    ((c.get_mut.follows.holds new).3 (sym (ap is_some c.in-Some.ensures.value))).0

pub returns-in-Ok-clause-answer : goal.returns-in-Ok-clause-answer
returns-in-Ok-clause-answer c = ap is_some (there_is c.args.sets.now.entries c.args.key.now c.in-Some.entry.now c.in-Some.ensures.value)

pub returns-in-Err-clause-err : goal.returns-in-Err-clause-err
returns-in-Err-clause-err c =
    let e : SetEntry = c.in-Some.entry.now in
    let new : SetEntry = record e { records = c.write_first.new.self } in
    unwritten_is c.args.sets.now.entries (c.get_mut.follows.lender new).entries c.args.key.now e new
    c.in-Some.ensures.value
    (ap (λ (rs : List (List ℕ)). record e { records = rs }) c.in-Err.ensures.err)
    ((c.get_mut.follows.holds new).3 (sym (ap is_some c.in-Some.ensures.value))).0

pub returns-in-Err-clause-memory : goal.returns-in-Err-clause-memory
returns-in-Err-clause-memory c =
    simp (there_is c.args.sets.now.entries c.args.key.now c.in-Some.entry.now c.in-Some.ensures.value) c.in-Err.ensures.memory

pub returns-in-Err-clause-answer : goal.returns-in-Err-clause-answer
returns-in-Err-clause-answer c = ap is_some (there_is c.args.sets.now.entries c.args.key.now c.in-Some.entry.now c.in-Some.ensures.value)

pub returns-in-None-clause-memory : goal.returns-in-None-clause-memory
returns-in-None-clause-memory c = simp (missing_is c.args.sets.now.entries c.args.key.now c.in-None.ensures.value) tt

pub returns-in-None-clause-answer : goal.returns-in-None-clause-answer
returns-in-None-clause-answer c = missing_is c.args.sets.now.entries c.args.key.now c.in-None.ensures.value
