use Rattle.std.specs.declared.ops.Bound.TheVariants.{Excluded, Included}
use Rattle.std.specs.BTreeMap.Range.{range_contains}
use Rattle.std.specs.FinMap as map
use Rattle.vtoc_core.specs.declared.entry.SetKey.TheVariants.{Named}
use Rattle.vtoc_core.specs.Entries.{key_cmp, set_among}
use Rattle.cat_core.proofs.Bounds.{forward_by}
use Rattle.part_copy.proofs.Held.{between_there, within_stands}
use Rattle.part_copy.proofs.sets.sets_between.Goals as goal

pub sets_between-requires : goal.sets_between-requires
sets_between-requires c = forward_by c.args.base.now c.args.below c.args.above c.requires.below c.requires.above

pub returns-clause-all : goal.returns-clause-all
returns-clause-all c = between_there c.args.base.now c.args.below c.args.above c.sets_between.result c.args.volume.now.sets c.sets_between.ensures c.requires.below c.requires.above

pub returns-clause-there : goal.returns-clause-there
returns-clause-there c key =
    within_stands (range_contains key_cmp (Included (Named c.args.below)) (Excluded (Named c.args.above)) key) (map.get c.args.volume.now.sets key)
    (set_among c.sets_between.result key) (c.sets_between.ensures key)
