use Rattle.std.proofs.Common.{◌≡◌, is_some, ap, sym}
use Rattle.group_core.specs.declared.entry.CatEntry.{CatEntry}
use Rattle.store_core.specs.Entered.{entry_without}
use Rattle.seen_store.proofs.Names.{changed, not_changed}
use Rattle.seen_store.proofs.entries.drop_number.Goals as goal

pub returns-in-Some : goal.returns-in-Some
returns-in-Some c =
    let now : CatEntry = c.drop_number_in.new.entry in
    changed (λ e. entry_without e c.args.number) c.args.entries.now.entries (c.get_mut.follows.lender now).entries c.args.base.now c.in-Some.entry.now now
    c.in-Some.ensures.value c.drop_number_in.ensures ((c.get_mut.follows.holds now).3 (sym (ap is_some c.in-Some.ensures.value))).0

pub returns-in-None : goal.returns-in-None
returns-in-None c =
    let same : c.get_mut.follows.lender-at-none.entries ≡ c.args.entries.now.entries = cc in
    not_changed (λ e. entry_without e c.args.number) c.args.entries.now.entries c.get_mut.follows.lender-at-none.entries c.args.base.now
    c.in-None.ensures.value same
