use Rattle.std.proofs.Common.{subst}
use Rattle.vtoc_core.specs.Volumes.{IsSoundVolume}
use Rattle.shared_core.proofs.AddingUp.{adds_up_by}
use Rattle.shared_core.proofs.sums.adds_up.Goals as goal

pub returns : goal.returns
returns c = adds_up_by c.args.mounted.now (subst IsSoundVolume c.volume.ensures c.volumes_are_sound.ensures) c.tracks_add_up.ensures
