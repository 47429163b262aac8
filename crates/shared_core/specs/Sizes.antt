-- The tracks of a volume, by what they are.
use Rattle.std.specs.Prelude.{◌≡◌, ◌+◌, All, length}
use Rattle.vtoc_core.specs.declared.volume.Track.TheVariants.{Free, Unusable}
use Rattle.vtoc_core.specs.Extents.{tracks_in}
use Rattle.vtoc_core.specs.Volumes.{count_of, extents_of_all}
use Rattle.mount_core.specs.Kept.{extents_kept}
use Rattle.mount_core.specs.Mounts.{MountedState}
use Rattle.shared_core.specs.declared.store.SharedStore.{SharedStore}

-- those that are free, those that are kept, those of sets and those that are never free add up to its size
abbrev pub HasItsSize : MountedState → Type 0
HasItsSize m = count_of Free m.volume.tracks + tracks_in (extents_kept m.kept) + tracks_in (extents_of_all m.volume.sets)
    + count_of Unusable m.volume.tracks ≡ length m.volume.tracks

abbrev pub VolumesHaveTheirSizes : SharedStore → Type 0
VolumesHaveTheirSizes s = All HasItsSize s.volumes
