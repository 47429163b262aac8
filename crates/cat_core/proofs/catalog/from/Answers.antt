use Rattle.std.proofs.Common.{ap, ◌∙◌}
use Rattle.std.specs.declared.ops.Bound.TheVariants.{Included, Unbounded}
use Rattle.cat_core.specs.Catalogs.{entry_among}
use Rattle.cat_core.proofs.Maps.{among_between}
use Rattle.cat_core.proofs.catalog.from.Goals as goal

pub returns : goal.returns
returns c name = ap (λ entries. entry_among entries name) (c.range.ensures.between tt) ∙ among_between (Included c.args.below) Unbounded c.args.entries.now.entries name
