use Rattle.std.proofs.Common.{Some, ap, subst, ◌∙◌}
use Rattle.std.specs.FinMap.{get}
use Rattle.jcl_meaning.specs.Stores.{cut}
use Rattle.vtoc_core.specs.Entries.{with_extents}
use Rattle.vtoc_core.specs.Extents.{kept_front}
use Rattle.vtoc_core.specs.Volumes.{IsSoundVolume, VolumeState}
use Rattle.mount_core.specs.Mounts.{MountedState}
use Rattle.shared_core.proofs.Entries.{same_found, trimmed}
use Rattle.shared_core.proofs.Written.{changed_on, freed_all}
use Rattle.shared_core.proofs.OnVolumes.{none_given_up, set_cut, volume_as_before}
use Rattle.shared_core.proofs.volumes.trim_on.Goals as goal

pub returns-in-Ok-clause-changes : goal.returns-in-Ok-clause-changes
returns-in-Ok-clause-changes c =
    let done = c.in-Ok.ensures.ok in
    changed_on _ _ c.args.key.now (ap (λ (m : MountedState). m.serial) c.trim.ensures.others) (freed_all _ _ _ done.3) (with_extents (kept_front c.tracks_used-used.result)) cut
    (ap (λ (v : VolumeState). v.sets) done.2) (λ e h. trimmed c.tracks_used-used.result c.in-Some.entry.now e (same_found _ _ _ c.in-Some.ensures (ap (λ (v : VolumeState). get v.sets c.args.key.now) c.volume-2.ensures ∙ h)) c.tracks_used-used.ensures)
    (ap (λ (m : MountedState). m.kept) c.trim.ensures.others)

pub returns-in-Ok-clause-extents : goal.returns-in-Ok-clause-extents
returns-in-Ok-clause-extents c =
    let done = c.in-Ok.ensures.ok in
    set_cut _ _ c.args.key.now c.tracks_used-used.result done.0 done.1 (subst IsSoundVolume c.volume.ensures c.volumes_are_sound.ensures)
    (ap (λ (v : VolumeState). v.tracks) done.2) (ap (λ (v : VolumeState). v.sets) done.2)

pub returns-in-Err-clause-extents : goal.returns-in-Err-clause-extents
returns-in-Err-clause-extents c = volume_as_before _ _ c.in-Err.ensures.err

pub returns-in_default-clause-extents : goal.returns-in_default-clause-extents
returns-in_default-clause-extents c = none_given_up (Some c.args.mounted.now)
