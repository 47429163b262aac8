use Rattle.std.proofs.Common.{◌++◌, None, Some, ap, refl}
use Rattle.jcl_meaning.specs.Programs.{grown_by}
use Rattle.vtoc_core.specs.Entries.{with_extents}
use Rattle.vtoc_core.specs.Volumes.{VolumeState}
use Rattle.mount_core.specs.Mounts.{MountedState}
use Rattle.shared_core.proofs.Entries.{grows, grows_not, grown}
use Rattle.shared_core.proofs.Written.{changed_on, taken_all}
use Rattle.shared_core.proofs.OnVolumes.{not_taken, set_grown, volume_as_before}
use Rattle.shared_core.proofs.volumes.grow_on.Goals as goal

pub returns-in-Ok-clause-ok : goal.returns-in-Ok-clause-ok
returns-in-Ok-clause-ok c =
    let done = c.in-Ok.ensures.answer in (
      changed_on _ _ c.args.key.now (ap (λ (m : MountedState). m.serial) c.grow.ensures.others) (taken_all _ _ _ done.6) (with_extents (λ all. all ++ done.1)) (grown_by c.args.tracks)
          (ap (λ (v : VolumeState). v.sets) done.5) (λ e h. grown c.args.mounted.now.volume c.args.tracks e done.1 done.3)
          (ap (λ (m : MountedState). m.kept) c.grow.ensures.others),
      grows c.args.mounted.now.volume c.args.key.now c.args.tracks done.0 done.1 done.2 done.3 done.4,
    )

pub returns-in-Err-NoSpace-clause-refused : goal.returns-in-Err-NoSpace-clause-refused
returns-in-Err-NoSpace-clause-refused c =
    let refused = rw c.in-Err-NoSpace.field-0-is at c.in-Err-NoSpace.ensures.answer in
    (λ _. grows_not c.args.mounted.now.volume c.args.key.now c.args.tracks refused.0 refused.1, λ _. refl)

pub returns-in-Ok-clause-extents : goal.returns-in-Ok-clause-extents
returns-in-Ok-clause-extents c =
    let done = c.in-Ok.ensures.answer in
    set_grown _ _ c.args.key.now c.args.tracks done.1 done.3 (ap (λ (v : VolumeState). v.tracks) done.5) (ap (λ (v : VolumeState). v.sets) done.5)

pub returns-in-Err-NameMissing-clause-extents : goal.returns-in-Err-NameMissing-clause-extents
returns-in-Err-NameMissing-clause-extents c =
    not_taken None (Some c.args.mounted.now) _ (volume_as_before _ _ (rw c.in-Err-NameMissing.field-0-is at c.in-Err-NameMissing.ensures.answer).1)
