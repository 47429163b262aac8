-- What the catalog and the volumes hold, as the store of all jobs.
use Rattle.std.specs.Prelude.{ℕ, List, [], ◌∷◌, Option, Some, None, if◌then◌else◌}
use Rattle.std.specs.FinMap.{get}
use Rattle.std.specs.Option.{option_map}
use Rattle.std.specs.Str.{bytes_eq}
use Rattle.extent_core.specs.declared.extent.Extent.{Extent}
use Rattle.vtoc_core.specs.declared.entry.SetEntry.{SetEntry}
use Rattle.vtoc_core.specs.declared.entry.SetKey.{SetKey}
use Rattle.vtoc_core.specs.Extents.{tracks_in}
use Rattle.jcl_meaning.specs.declared.store.DataSet.{DataSet}
use Rattle.world_meaning.specs.Lenses.{WorldStore}
use Rattle.mount_core.specs.declared.place.KeptPlace.{KeptPlace}
use Rattle.mount_core.specs.Mounts.{MountedState}
use Rattle.shared_core.specs.declared.store.SharedStore.{SharedStore}

-- an entry of a volume's table of contents as a set
abbrev pub data_of : SetEntry → DataSet
data_of e = record { tracks = tracks_in e.extents.items; expires = e.expires; records = e.records }

-- the volume of a serial: of two the first counts
abbrev pub mounted_in : List MountedState → List ℕ → Option MountedState
mounted_in [] serial = None
mounted_in (m ∷ ms) serial = if bytes_eq m.serial serial then Some m else mounted_in ms serial

abbrev pub set_on : Option MountedState → SetKey → Option DataSet
set_on None k = None
set_on (Some m) k = option_map data_of (get m.volume.sets k)

-- the tracks that are kept on a volume for the set of a DD
abbrev pub kept_extents : Option MountedState → KeptPlace → Option (List Extent)
kept_extents None place = None
kept_extents (Some m) place = get m.kept place

abbrev pub world_store_of : SharedStore → WorldStore
world_store_of s = record { set = λ k serial. set_on (mounted_in s.volumes serial) k; catalog = λ name. get s.catalog name }
