use Rattle.std.proofs.Common.{◌≡◌, Result, OnOk, ap, subst, ◌∙◌}
use Rattle.group_core.specs.declared.group.Rolled.{Rolled}
use Rattle.cat_core.specs.declared.fault.CatFault.{CatFault}
use Rattle.cat_core.specs.Catalogs.{Contents, Gives, contents_of, generation_entered, with_generation}
use Rattle.cat_core.proofs.Members.{entered_member, gives_itself, with_member}
use Rattle.cat_core.proofs.catalog.Catalog.enter.Goals as goal

pub returns-in-Some-clause-answer : goal.returns-in-Some-clause-answer
returns-in-Some-clause-answer c =
    subst (λ (d : Result Rolled CatFault). Gives c.enter_at.result d)
    (c.enter_at.ensures.answer ∙ ap (λ (m : Contents). generation_entered m c.base_of.result c.in-Some.number c.args.serial) c.self.view_is
    ∙ entered_member c.args.self.now c.args.name c.base_of.result c.args.serial c.in-Some.number c.in-Some.field-0-1.now c.if-is_entered.ensures c.in-Some.ensures.value c.base_of.ensures.base)
    (gives_itself c.enter_at.result c.enter_at.ensures.memory)

pub returns-in-Some-clause-ok : goal.returns-in-Some-clause-ok
returns-in-Some-clause-ok c =
    subst (λ (d : Contents). OnOk c.enter_at.result (contents_of c.enter_at.new.entries.entries ≡ d))
    (ap (λ (m : Contents). with_generation m c.base_of.result c.in-Some.number c.args.serial) c.self.view_is
    ∙ with_member c.args.self.now c.args.name c.base_of.result c.args.serial c.in-Some.number c.in-Some.field-0-1.now c.in-Some.ensures.value c.base_of.ensures.base)
    c.enter_at.ensures.ok
