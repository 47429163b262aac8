use Rattle.std.proofs.Common.{[], true, refl, ap}
use Rattle.jcl_meaning.specs.Programs.{emptied}
use Rattle.vtoc_core.specs.Entries.{with_records}
use Rattle.vtoc_core.specs.Volumes.{VolumeState}
use Rattle.mount_core.specs.Mounts.{MountedState}
use Rattle.shared_core.specs.Rooms.{all_tracks}
use Rattle.shared_core.proofs.Written.{changed_on}
use Rattle.shared_core.proofs.OnVolumes.{records_changed}
use Rattle.shared_core.proofs.volumes.empty_on.Goals as goal

pub returns-in-Ok-clause-changes : goal.returns-in-Ok-clause-changes
returns-in-Ok-clause-changes c =
    changed_on _ _ c.args.key.now (ap (λ (m : MountedState). m.serial) c.clear.ensures.others) (ap (λ (v : VolumeState). all_tracks v.tracks) c.in-Ok.ensures.ok)
    (with_records (λ _. [])) (emptied true) (ap (λ (v : VolumeState). v.sets) c.in-Ok.ensures.ok) (λ e h. refl)
    (ap (λ (m : MountedState). m.kept) c.clear.ensures.others)

pub returns-in-Ok-clause-extents : goal.returns-in-Ok-clause-extents
returns-in-Ok-clause-extents c =
    records_changed _ _ c.args.key.now (λ _. []) (ap (λ (v : VolumeState). v.tracks) c.in-Ok.ensures.ok) (ap (λ (v : VolumeState). v.sets) c.in-Ok.ensures.ok)
