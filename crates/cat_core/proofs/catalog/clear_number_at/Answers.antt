use Rattle.std.proofs.Common.{◌≡◌, List, ℕ, Option, Some, is_some, ap, sym, ◌∙◌}
use Rattle.std.specs.FinMap.{get, insert}
use Rattle.group_core.specs.declared.entry.CatEntry.{CatEntry}
use Rattle.group_core.specs.Entries.{group_in}
use Rattle.cat_core.specs.Catalogs.{contents_of, without_number_by}
use Rattle.cat_core.proofs.Maps.{get_name, one_set, entry_without_is}
use Rattle.cat_core.proofs.catalog.clear_number_at.Goals as goal

pub returns-in-Some : goal.returns-in-Some
returns-in-Some c =
    let es : List (List ℕ × CatEntry) = c.args.entries.now.entries in
    let base : List ℕ = c.args.base.now in
    let new : CatEntry = c.clear_in.new.entry in
    let there : get (contents_of es) base ≡ Some c.in-Some.entry.now = get_name es base ∙ sym c.in-Some.ensures.value in
    let put : contents_of (c.get_mut.follows.lender new).entries ≡ insert (contents_of es) base new
    = one_set es (c.get_mut.follows.lender new).entries base new ((c.get_mut.follows.holds new).3 (sym (ap is_some c.in-Some.ensures.value))).0 in
    put ∙ ap (insert (contents_of es) base) c.clear_in.ensures ∙ entry_without_is (contents_of es) base c.args.number c.in-Some.entry.now there

pub returns-in-None : goal.returns-in-None
returns-in-None c =
    let es : List (List ℕ × CatEntry) = c.args.entries.now.entries in
    let same : c.get_mut.follows.lender-at-none.entries ≡ es = cc in
    ap contents_of same ∙ ap (λ (e : Option CatEntry). without_number_by (group_in e) (contents_of es) c.args.base.now c.args.number)
    (c.in-None.ensures.value ∙ sym (get_name es c.args.base.now))
