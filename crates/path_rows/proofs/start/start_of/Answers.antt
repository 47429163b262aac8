use Rattle.path_rows.proofs.Volumes.{sound_volumes}
use Rattle.path_rows.proofs.start.start_of.Goals as goal

pub returns : goal.returns
returns c = sound_volumes (record { volumes = c.in_ok-volumes.volumes; sets = c.in_ok-sets.sets; catalog = c.in_ok-catalog.catalog }) c.in_ok-catalog.ensures
