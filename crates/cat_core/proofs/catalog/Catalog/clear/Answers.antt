use Rattle.std.proofs.Common.{ap, ◌∙◌}
use Rattle.cat_core.specs.Catalogs.{Contents, without_number}
use Rattle.cat_core.proofs.Members.{without_member}
use Rattle.cat_core.proofs.catalog.Catalog.clear.Goals as goal

pub returns-in-Some : goal.returns-in-Some
returns-in-Some c =
    c.clear_number_at.ensures
    ∙ ap (λ (m : Contents). without_number m c.base_of.result c.in-Some.number) c.self.view_is
    ∙ without_member c.args.self.now c.args.name.now c.base_of.result c.in-Some.number c.in-Some.field-0-1.now c.in-Some.ensures.value c.base_of.ensures.base
