use Rattle.std.proofs.Common.{◌≡◌, List, ℕ, Option, Some, is_some, ap, sym, ◌∙◌}
use Rattle.std.specs.FinMap.{get, insert}
use Rattle.group_core.specs.declared.entry.CatEntry.{CatEntry}
use Rattle.group_core.specs.Entries.{group_in}
use Rattle.cat_core.specs.Catalogs.{contents_of, entry_with, generation_entered_by, with_generation}
use Rattle.cat_core.proofs.Maps.{get_name, insert_same, one_set, entry_with_is}
use Rattle.cat_core.proofs.Outcomes.{at_ok, at_err}
use Rattle.cat_core.proofs.catalog.enter_at.Goals as goal

pub returns-in-Some-clause-answer : goal.returns-in-Some-clause-answer
returns-in-Some-clause-answer c =
    c.enter_in.ensures.answer ∙ ap (λ (e : Option CatEntry). generation_entered_by (group_in e) c.args.number c.args.serial)
    (c.in-Some.ensures.value ∙ sym (get_name c.args.entries.now.entries c.args.base.now))

pub returns-in-Some-clause-ok : goal.returns-in-Some-clause-ok
returns-in-Some-clause-ok c =
    let es : List (List ℕ × CatEntry) = c.args.entries.now.entries in
    let base : List ℕ = c.args.base.now in
    let new : CatEntry = c.enter_in.new.entry in
    let there : get (contents_of es) base ≡ Some c.in-Some.entry.now = get_name es base ∙ sym c.in-Some.ensures.value in
    let put : contents_of (c.get_mut.follows.lender new).entries ≡ insert (contents_of es) base new
    = one_set es (c.get_mut.follows.lender new).entries base new ((c.get_mut.follows.holds new).3 (sym (ap is_some c.in-Some.ensures.value))).0 in
    at_ok c.enter_in.result (new ≡ entry_with c.in-Some.entry.now c.args.number c.args.serial) (contents_of (c.get_mut.follows.lender new).entries ≡ with_generation (contents_of es) base c.args.number c.args.serial)
    (λ h. put ∙ ap (insert (contents_of es) base) h ∙ entry_with_is (contents_of es) base c.args.number c.args.serial c.in-Some.entry.now there) c.enter_in.ensures.ok

pub returns-in-Some-clause-err : goal.returns-in-Some-clause-err
returns-in-Some-clause-err c =
    let es : List (List ℕ × CatEntry) = c.args.entries.now.entries in
    let base : List ℕ = c.args.base.now in
    let new : CatEntry = c.enter_in.new.entry in
    let there : get (contents_of es) base ≡ Some c.in-Some.entry.now = get_name es base ∙ sym c.in-Some.ensures.value in
    let put : contents_of (c.get_mut.follows.lender new).entries ≡ insert (contents_of es) base new
    = one_set es (c.get_mut.follows.lender new).entries base new ((c.get_mut.follows.holds new).3 (sym (ap is_some c.in-Some.ensures.value))).0 in
    at_err c.enter_in.result (new ≡ c.in-Some.entry.now) (contents_of (c.get_mut.follows.lender new).entries ≡ contents_of es)
    (λ h. put ∙ ap (insert (contents_of es) base) h ∙ insert_same (contents_of es) base c.in-Some.entry.now there) c.enter_in.ensures.err

pub returns-in-None-clause-answer : goal.returns-in-None-clause-answer
returns-in-None-clause-answer c =
    ap (λ (e : Option CatEntry). generation_entered_by (group_in e) c.args.number c.args.serial) (c.in-None.ensures.value ∙ sym (get_name c.args.entries.now.entries c.args.base.now))
