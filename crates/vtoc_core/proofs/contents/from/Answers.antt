use Rattle.std.proofs.Common.{ap, ◌∙◌}
use Rattle.std.specs.declared.ops.Bound.TheVariants.{Included, Unbounded}
use Rattle.vtoc_core.specs.Entries.{set_among}
use Rattle.vtoc_core.proofs.RangeLemmas.{among_between}
use Rattle.vtoc_core.proofs.contents.from.Goals as goal

pub returns : goal.returns
returns c key = ap (λ sets. set_among sets key) (c.range.ensures.between tt) ∙ among_between (Included c.args.below) Unbounded c.args.sets.now.entries key
