use Rattle.std.proofs.Common.{◌≡◌, ◌+◌, length, subst}
use Rattle.vtoc_core.specs.declared.volume.Track.TheVariants.{Free, Unusable}
use Rattle.vtoc_core.specs.Extents.{tracks_in}
use Rattle.vtoc_core.specs.Volumes.{count_of, extents_of_all}
use Rattle.mount_core.specs.Kept.{extents_kept, kept_of}
use Rattle.mount_core.specs.Mounts.{MountedState}
use Rattle.mount_core.proofs.Sums.{add_up}
use Rattle.mount_core.proofs.mounted.Mounted.tracks_add_up.Goals as goal

pub returns : goal.returns
returns c =
    subst (λ (m : MountedState). count_of Free m.volume.tracks + tracks_in (extents_kept m.kept) + tracks_in (extents_of_all m.volume.sets)
    + count_of Unusable m.volume.tracks ≡ length m.volume.tracks) c.self.view_is
    (add_up c.self.inside.volume c.volumes_are_sound.ensures (kept_of c.self.inside.kept.entries) c.self.invariant)
