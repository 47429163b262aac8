use Rattle.std.proofs.Common.{◌∙◌, Option, is_some, ap, subst, sym}
use Rattle.group_core.specs.declared.entry.CatEntry.{CatEntry}
use Rattle.group_core.specs.Entries.{group_in}
use Rattle.store_core.specs.Entered.{entry_with}
use Rattle.store_core.specs.EnteredNumbers.{EntersNumber, TakesNumber}
use Rattle.seen_store.proofs.Names.{changed, entry_found}
use Rattle.seen_store.proofs.entries.enter_number.Goals as goal

pub enter_number_in-requires-clause-group : goal.enter_number_in-requires-clause-group
enter_number_in-requires-clause-group c =
    subst (λ (e : Option CatEntry). TakesNumber (group_in e) c.args.number c.args.serial)
    (sym (c.in-Some.ensures.value ∙ entry_found c.args.entries.now.entries c.args.base.now)) c.requires.group

pub unreachable-requires : goal.unreachable-requires
unreachable-requires c =
    subst (λ (e : Option CatEntry). TakesNumber (group_in e) c.args.number c.args.serial)
    (sym (c.in-None.ensures.value ∙ entry_found c.args.entries.now.entries c.args.base.now)) c.requires.group

pub returns-clause-answer : goal.returns-clause-answer
returns-clause-answer c =
    subst (λ (e : Option CatEntry). EntersNumber (group_in e) c.args.number c.args.serial c.enter_number_in.result)
    (c.in-Some.ensures.value ∙ entry_found c.args.entries.now.entries c.args.base.now) c.enter_number_in.ensures.answer

pub returns-clause-entry : goal.returns-clause-entry
returns-clause-entry c =
    let now : CatEntry = c.enter_number_in.new.entry in
    changed (λ e. entry_with e c.args.number c.args.serial) c.args.entries.now.entries (c.get_mut.follows.lender now).entries c.args.base.now c.in-Some.entry.now
    now c.in-Some.ensures.value c.enter_number_in.ensures.entry ((c.get_mut.follows.holds now).3 (sym (ap is_some c.in-Some.ensures.value))).0
