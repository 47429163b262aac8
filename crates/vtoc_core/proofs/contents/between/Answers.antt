use Rattle.std.proofs.Common.{ap, ◌∙◌}
use Rattle.std.specs.declared.ops.Bound.TheVariants.{Excluded, Included}
use Rattle.vtoc_core.specs.Entries.{set_among}
use Rattle.vtoc_core.proofs.RangeLemmas.{among_between, forward_same}
use Rattle.vtoc_core.proofs.contents.between.Goals as goal

pub returns : goal.returns
returns c key = ap (λ sets. set_among sets key) (c.range.ensures.between tt) ∙ among_between (Included c.args.below) (Excluded c.args.above) c.args.sets.now.entries key

pub range-requires : goal.range-requires
range-requires c = forward_same c.args.below c.args.above ∙ c.requires
