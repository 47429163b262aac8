use Rattle.std.proofs.Common.{sym, subst}
use Rattle.path_rows.specs.Catalogs.{AreVolumes}
use Rattle.path_rows.proofs.Volumes.{volumes_more}
use Rattle.path_rows.proofs.start.catalog_of.Goals as goal

pub loop-name-init : goal.loop-name-init
loop-name-init c = subst AreVolumes (sym c.empty-catalog.ensures) tt

pub loop-name-preserved : goal.loop-name-preserved
loop-name-preserved c = subst AreVolumes (sym c.in_ok-push.ensures.ok) (volumes_more c.loop-name.catalog _ c.loop-name.invariant tt)
