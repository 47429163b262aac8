use Rattle.std.proofs.Common.{[], ◌∷◌, ◌++◌, refl, ap}
use Rattle.jcl_meaning.specs.Programs.{appended}
use Rattle.vtoc_core.specs.Entries.{with_records}
use Rattle.vtoc_core.specs.Volumes.{VolumeState}
use Rattle.mount_core.specs.Mounts.{MountedState}
use Rattle.shared_core.specs.Rooms.{all_tracks}
use Rattle.shared_core.proofs.Written.{changed_on}
use Rattle.shared_core.proofs.OnVolumes.{records_changed}
use Rattle.shared_core.proofs.volumes.append_on.Goals as goal

pub returns-in-Ok-clause-ok : goal.returns-in-Ok-clause-ok
returns-in-Ok-clause-ok c =
    changed_on _ _ c.args.key.now (ap (λ (m : MountedState). m.serial) c.append.ensures.others) (ap (λ (v : VolumeState). all_tracks v.tracks) c.in-Ok.ensures.ok)
    (with_records (λ all. all ++ c.args.text.now ∷ [])) (appended c.args.text.now) (ap (λ (v : VolumeState). v.sets) c.in-Ok.ensures.ok) (λ e h. refl)
    (ap (λ (m : MountedState). m.kept) c.append.ensures.others)

pub returns-in-Ok-clause-extents : goal.returns-in-Ok-clause-extents
returns-in-Ok-clause-extents c =
    records_changed _ _ c.args.key.now (λ all. all ++ c.args.text.now ∷ []) (ap (λ (v : VolumeState). v.tracks) c.in-Ok.ensures.ok)
    (ap (λ (v : VolumeState). v.sets) c.in-Ok.ensures.ok)
