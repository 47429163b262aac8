-- Lists of copies of what a job sees, and what is found in them.
use Rattle.std.specs.Prelude.{◌≡◌, ℕ, Bool, true, false, ◌==◌, ◌||◌, ◌&&◌, List, [], ◌∷◌, ◌++◌, Option, Some, None, IfSome, if◌then◌else◌}
use Rattle.std.specs.FinMap.{get}
use Rattle.std.specs.List.{filter_map, list_any}
use Rattle.std.specs.Option.{option_map}
use Rattle.std.specs.Str.{bytes_eq}
use Rattle.jname_core.specs.declared.key.Key.{Key}
use Rattle.jname_core.specs.declared.key.Key.TheVariants as key
use Rattle.jname_core.specs.Generations.{base_of}
use Rattle.group_core.specs.declared.entry.CatEntry.{CatEntry}
use Rattle.vtoc_core.specs.declared.entry.SetEntry.{SetEntry}
use Rattle.vtoc_core.specs.declared.entry.SetKey.{SetKey}
use Rattle.vtoc_core.specs.declared.entry.SetKey.TheVariants as world
use Rattle.jcl_meaning.specs.declared.names.HeldName.{HeldName}
use Rattle.jcl_meaning.specs.declared.store.DataSet.{DataSet}
use Rattle.jcl_meaning.specs.declared.store.SoloEntry.{SoloEntry}
use Rattle.jcl_meaning.specs.declared.store.SoloSet.{SoloSet}
use Rattle.jcl_meaning.specs.Names.{held_under}
use Rattle.jcl_meaning.specs.Parts.{sees_key}
use Rattle.jcl_meaning.specs.Stores.{entry_in, set_in}
use Rattle.world_meaning.specs.Lenses.{world_key}
use Rattle.mount_core.specs.Mounts.{MountedState}
use Rattle.shared_core.specs.Shown.{mounted_in}

-- a set without its tracks and records
abbrev pub bare : SetEntry → DataSet
bare e = record { tracks = 0; expires = e.expires; records = [] }

-- a key of a named set
abbrev pub IsNamed : SetKey → Type 0
IsNamed (world.Named name) = Unit {0}
IsNamed (world.Temporary owner name) = ⊥
IsNamed (world.Unnamed owner step dd) = ⊥

-- the key under which a job sees a set of the store of all jobs
abbrev pub job_key : ℕ → SetKey → Option Key
job_key job (world.Named name) = Some (key.Named name)
job_key job (world.Temporary owner name) = if owner == job then Some (key.Temporary name) else None
job_key job (world.Unnamed owner step dd) = if owner == job then Some (key.Unnamed step dd) else None

-- what is held under one name is held under another, or both under none
abbrev pub is_under : Option (List ℕ) → Option (List ℕ) → Bool
is_under None None = true
is_under (Some held) (Some base) = bytes_eq held base
is_under _ _ = false

-- the copy of a set on the volume of a serial, where the job sees it under this name, or under none
abbrev pub copy_under : Option Key → Option (List ℕ) → List ℕ → SetEntry → Option SoloSet
copy_under None held serial e = None
copy_under (Some k) held serial e = if is_under held (held_under k) then Some (record { serial = serial; key = k; set = bare e }) else None

abbrev pub copy_of_set : ℕ → Option (List ℕ) → List ℕ → SetKey × SetEntry → Option SoloSet
copy_of_set job held serial s = copy_under (job_key job s.0) held serial s.1

abbrev pub copies_of_sets : ℕ → Option (List ℕ) → List ℕ → List (SetKey × SetEntry) → List SoloSet
copies_of_sets job held serial sets = filter_map (copy_of_set job held serial) sets

-- the copy of a named set, where there is one
abbrev pub copies_of_named : List ℕ → List ℕ → Option SetEntry → List SoloSet
copies_of_named serial name None = []
copies_of_named serial name (Some e) = record { serial = serial; key = key.Named name; set = bare e } ∷ []

-- the copy of an entry whose name is held under this one
abbrev pub copy_of_entry : List ℕ → List ℕ × CatEntry → Option SoloEntry
copy_of_entry held e = if bytes_eq held (base_of e.0) then Some (record { name = e.0; entry = e.1 }) else None

abbrev pub copies_of_entries : List ℕ → List (List ℕ × CatEntry) → List SoloEntry
copies_of_entries held entries = filter_map (copy_of_entry held) entries

-- the copy of a name's own entry, where there is one
abbrev pub copies_of_entry : List ℕ → Option CatEntry → List SoloEntry
copies_of_entry name None = []
copies_of_entry name (Some e) = record { name = name; entry = e } ∷ []

-- a key on the volume of a serial, and the set that is found there
abbrev pub Spot : Type 0
Spot = Key × List ℕ

abbrev pub set_at : List SoloSet → Spot → Option DataSet
set_at sets spot = set_in sets spot.0 spot.1

-- the set, bare, that a job sees under a key on a volume
abbrev pub bare_under : Option SetKey → Option MountedState → Option DataSet
bare_under None m = None
bare_under (Some k) None = None
bare_under (Some k) (Some m) = option_map bare (get m.volume.sets k)

abbrev pub bare_on : ℕ → MountedState → Spot → Option DataSet
bare_on job m spot = if bytes_eq m.serial spot.1 then bare_under (world_key job spot.0) (Some m) else None

abbrev pub bare_at : ℕ → List MountedState → Spot → Option DataSet
bare_at job volumes spot = bare_under (world_key job spot.0) (mounted_in volumes spot.1)

-- More copies are behind those that were there: what is found in them is as it stands, and where they are to be complete it is found.
pub record Adds {X Q Y : Type 0} (found : List X → Q → Option Y) (stands : Q → Option Y) (complete : Q → Bool) (old new : List X) : Type 0 where
  pub more : List X
  pub behind : new ≡ old ++ more
  pub copied : (q : Q) → IfSome (found more q) (λ y. stands q ≡ Some y)
  pub whole : (q : Q) → complete q ≡ true → found more q ≡ stands q

abbrev pub AddsSets : (Spot → Option DataSet) → (Spot → Bool) → List SoloSet → List SoloSet → Type 0
AddsSets stands complete old new = Adds set_at stands complete old new

abbrev pub AddsEntries : (List ℕ → Option CatEntry) → (List ℕ → Bool) → List SoloEntry → List SoloEntry → Type 0
AddsEntries stands complete old new = Adds entry_in stands complete old new

-- which sets are to be found: those under some names
abbrev pub is_under_some : List HeldName → Option (List ℕ) → Bool
is_under_some names base = list_any (λ h. is_under (Some h.name) base) names

-- a key is seen, and its volume is one of these
abbrev pub is_seen_on : List HeldName → List MountedState → Spot → Bool
is_seen_on names volumes spot = list_any (λ m. sees_key names spot.0 && bytes_eq m.serial spot.1) volumes

-- and which entries: that of a name, and those of its generations
abbrev pub is_of_name : List ℕ → List ℕ → Bool
is_of_name held name = bytes_eq held name || bytes_eq held (base_of name)

abbrev pub is_of_some : List HeldName → List ℕ → Bool
is_of_some names name = list_any (λ h. is_of_name h.name name) names
