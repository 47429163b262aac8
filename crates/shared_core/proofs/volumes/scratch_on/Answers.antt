use Rattle.std.proofs.Common.{ap, subst}
use Rattle.vtoc_core.specs.Volumes.{IsSoundVolume, VolumeState}
use Rattle.mount_core.specs.Mounts.{MountedState}
use Rattle.shared_core.proofs.Written.{freed_all, taken_on}
use Rattle.shared_core.proofs.OnVolumes.{set_gone, volume_as_before}
use Rattle.shared_core.proofs.volumes.scratch_on.Goals as goal

pub returns-in-Ok-clause-changes : goal.returns-in-Ok-clause-changes
returns-in-Ok-clause-changes c =
    let done = c.in-Ok.ensures.ok in (
      taken_on _ _ c.args.key.now (ap (λ (m : MountedState). m.serial) c.scratch.ensures.others) (freed_all _ _ _ done.3) (ap (λ (v : VolumeState). v.sets) done.2),
      ap (λ (m : MountedState). m.kept) c.scratch.ensures.others,
    )

pub returns-in-Ok-clause-extents : goal.returns-in-Ok-clause-extents
returns-in-Ok-clause-extents c =
    let done = c.in-Ok.ensures.ok in
    set_gone _ _ c.args.key.now done.0 done.1 (subst IsSoundVolume c.volume.ensures c.volumes_are_sound.ensures) (ap (λ (v : VolumeState). v.tracks) done.2)
    (ap (λ (v : VolumeState). v.sets) done.2)

pub returns-in-Err-clause-extents : goal.returns-in-Err-clause-extents
returns-in-Err-clause-extents c = volume_as_before _ _ c.in-Err.ensures.err
