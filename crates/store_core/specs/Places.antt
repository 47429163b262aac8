-- Where a set, or an entry of the catalog, stands in a store of lists.
use Rattle.std.specs.Prelude.{◌≡◌, ℕ, ◌<◌, ◌&&◌, List, length, Some, slice_get, slice_set, if◌then◌else◌}
use Rattle.std.specs.Str.{bytes_eq}
use Rattle.group_core.specs.declared.entry.CatEntry.{CatEntry}
use Rattle.jname_core.specs.declared.key.Key.{Key}
use Rattle.jcl_meaning.specs.declared.store.DataSet.{DataSet}
use Rattle.jcl_meaning.specs.declared.store.SoloEntry.{SoloEntry}
use Rattle.jcl_meaning.specs.declared.store.SoloSet.{SoloSet}
use Rattle.jcl_meaning.specs.Names.{same_key}
use Rattle.jcl_meaning.specs.Stores.{entry_in, set_in}

-- The set of a key on a volume is the one at this place, and whatever stands there in its stead is found for that key and volume alone.
pub record IsFirstAt (sets : List SoloSet) (key : Key) (serial : List ℕ) (place : ℕ) : Type 0 where
  pub within : place < length sets
  pub its_set : SoloSet
  pub stands : slice_get sets place ≡ Some its_set
  pub found : set_in sets key serial ≡ Some its_set.set
  pub changed : (other : DataSet) (k : Key) (v : List ℕ) →
      set_in (slice_set sets place (record its_set { set = other })) k v ≡ if same_key k key && bytes_eq v serial then Some other else set_in sets k v

-- The entry of a name is the one at this place, and whatever stands there in its stead is found for that name alone.
pub record IsFirstOf (entries : List SoloEntry) (name : List ℕ) (place : ℕ) : Type 0 where
  pub within : place < length entries
  pub its_entry : SoloEntry
  pub stands : slice_get entries place ≡ Some its_entry
  pub found : entry_in entries name ≡ Some its_entry.entry
  pub changed : (other : CatEntry) (n : List ℕ) →
      entry_in (slice_set entries place (record its_entry { entry = other })) n ≡ if bytes_eq n name then Some other else entry_in entries n
