use Rattle.path_rows.specs.Catalogs.{AreVolumes}
use Rattle.path_rows.proofs.start.catalog_of.Given as goal

abbrev pub invariant-loop-name : goal.invariant-loop-name
invariant-loop-name l = AreVolumes l.catalog
