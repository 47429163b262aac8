use Rattle.std.specs.declared.ops.Bound.TheVariants.{Excluded, Included}
use Rattle.std.specs.BTreeMap.Range.{range_contains}
use Rattle.std.specs.FinMap as map
use Rattle.cat_core.specs.Catalogs.{entry_among, name_cmp}
use Rattle.cat_core.proofs.Bounds.{forward_by}
use Rattle.part_copy.proofs.EntryCopies.{between_there}
use Rattle.part_copy.proofs.Held.{within_stands}
use Rattle.part_copy.proofs.entries.entries_between.Goals as goal

pub entries_between-requires : goal.entries_between-requires
entries_between-requires c = forward_by c.args.base.now c.args.below c.args.above c.requires.below c.requires.above

pub returns-clause-all : goal.returns-clause-all
returns-clause-all c = between_there c.args.base.now c.args.below c.args.above c.entries_between.result c.args.catalog.now c.entries_between.ensures c.requires.below c.requires.above

pub returns-clause-there : goal.returns-clause-there
returns-clause-there c name =
    within_stands (range_contains name_cmp (Included c.args.below) (Excluded c.args.above) name) (map.get c.args.catalog.now name)
    (entry_among c.entries_between.result name) (c.entries_between.ensures name)
