use Rattle.std.proofs.Common.{subst}
use Rattle.shared_core.specs.LaidOut.{VolumesAreLaidOut}
use Rattle.sched_core.specs.Systems.{IsWhole}
use Rattle.sched_core.proofs.system.System.is_whole.Goals as goal

pub returns : goal.returns
returns g c = subst IsWhole c.self.view_is (record {
  serials = c.self.invariant.kept.fit.good.volumes;
  laid_out = subst VolumesAreLaidOut c.as_slice.ensures c.volumes_are_laid_out.ensures;
  records = c.are_records.ensures;
})
