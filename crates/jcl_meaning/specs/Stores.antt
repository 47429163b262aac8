-- The store: sets by key and volume, and the catalog by name. (GC28-6704, "Cataloging data sets", "Generation data sets")
use Rattle.std.specs.Prelude.{ℕ, ◌+◌, min, Bool, true, false, ◌&&◌, nat_lt, nat_le, List, [], ◌∷◌, length, Option, Some, None, Result, Ok, Err, if◌then◌else◌}
use Rattle.std.specs.Str.{bytes_eq}
use Rattle.jname_core.specs.declared.key.Key.{Key}
use Rattle.jname_core.specs.declared.key.Key.TheVariants.{Named, Relative, Temporary, Unnamed}
use Rattle.jname_core.specs.declared.key.Sign.{Sign}
use Rattle.jname_core.specs.Generations.{base_of, generation_of, generation_name}
use Rattle.group_core.specs.declared.entry.CatEntry.{CatEntry}
use Rattle.group_core.specs.declared.entry.CatEntry.TheVariants.{Volume, Group}
use Rattle.group_core.specs.declared.group.GroupFault.{GroupFault}
use Rattle.group_core.specs.declared.group.GroupFault.TheVariants as refused
use Rattle.group_core.specs.declared.group.Rolled.{Rolled}
use Rattle.group_core.specs.declared.group.Rolled.TheVariants.{Entered, Removed, Lowest, Same}
use Rattle.group_core.specs.Entries.{Member, found_by, group_in, member_by}
use Rattle.group_core.specs.Groups.{GroupState, entered, resolved, with_entered, without}
use Rattle.jcl_plan.specs.declared.fault.Fault.TheVariants.{F5, F9}
use Rattle.jcl_plan.specs.Tracks.{tracks_for}
use Rattle.jcl_meaning.specs.declared.state.Resolution.{Resolution}
use Rattle.jcl_meaning.specs.declared.state.Resolution.TheVariants.{Means, Fails}
use Rattle.jcl_meaning.specs.declared.store.DataSet.{DataSet}
use Rattle.jcl_meaning.specs.declared.store.SoloEntry.{SoloEntry}
use Rattle.jcl_meaning.specs.declared.store.SoloSet.{SoloSet}
use Rattle.jcl_meaning.specs.declared.store.SoloStore.{SoloStore}
use Rattle.jcl_meaning.specs.Names.{same_key}

-- the sets, each by its key and the serial of its volume, and what the catalog has for a name
pub record Store : Type 0 where
  pub set : Key → List ℕ → Option DataSet
  pub catalog : List ℕ → Option CatEntry

-- the store with this at a place, or nothing there
abbrev pub with_set : Store → Key → List ℕ → Option DataSet → Store
with_set s key serial there = record {
  set = λ k v. if same_key k key && bytes_eq v serial then there else s.set k v;
  catalog = s.catalog;
}

-- the store with a set that is there changed to this; where there is none nothing is written
abbrev pub with_set_there : Option DataSet → DataSet → Store → Key → List ℕ → Store
with_set_there None set s key serial = s
with_set_there (Some there) set s key serial = with_set s key serial (Some set)

abbrev pub with_entry : Store → List ℕ → Option CatEntry → Store
with_entry s name entry = record {
  set = s.set;
  catalog = λ n. if bytes_eq n name then entry else s.catalog n;
}

-- the group of a base
abbrev pub group_of : Store → List ℕ → Option GroupState
group_of s base = group_in (s.catalog base)

-- a number in the group of a name's base
abbrev pub member_of : Store → List ℕ → Option Member
member_of s name = member_by (generation_of name) (group_of s (base_of name))

-- the volume that the catalog has for a name
abbrev pub volume_of : Store → List ℕ → Option (List ℕ)
volume_of s name = found_by (member_of s name) (s.catalog name)

-- the same for a key; temporary sets are in no catalog
abbrev pub catalogued : Store → Key → Option (List ℕ)
catalogued s (Named name) = volume_of s name
catalogued s (Relative base sign amount) = None
catalogued s (Temporary name) = None
catalogued s (Unnamed step dd) = None

-- the store without the catalog's entry for a name
abbrev pub uncatalogued_by : Option Member → Store → List ℕ → Store
uncatalogued_by (Some m) s name = with_entry s (base_of name) (Some (Group (record m.1 { generations = without m.1.generations m.0 })))
uncatalogued_by None s name = with_entry s name None

abbrev pub uncatalogued : Store → Key → Store
uncatalogued s (Named name) = uncatalogued_by (member_of s name) s name
uncatalogued s (Relative base sign amount) = s
uncatalogued s (Temporary name) = s
uncatalogued s (Unnamed step dd) = s

-- what a relative number means: no group and no such generation are F5, a number above 9999 is F9
abbrev pub by_number : List ℕ → Result ℕ GroupFault → Resolution
by_number base (Ok number) = Means (Named (generation_name base number))
by_number base (Err refused.TooHigh) = Fails F9
by_number base (Err refused.NoGeneration) = Fails F5
by_number base (Err refused.Elsewhere) = Fails F5

abbrev pub by_group : Option GroupState → List ℕ → Sign → ℕ → Resolution
by_group None base sign amount = Fails F5
by_group (Some g) base sign amount = by_number base (resolved g.generations sign amount)

-- a base has at most 35 characters
abbrev pub resolution_of : Store → Key → Resolution
resolution_of s (Relative base sign amount) = if nat_le (length base) 35 then by_group (group_of s base) base sign amount else Fails F5
resolution_of s (Named name) = Means (Named name)
resolution_of s (Temporary name) = Means (Temporary name)
resolution_of s (Unnamed step dd) = Means (Unnamed step dd)

-- a set with a day is not to be deleted before it; on its day it is expired
abbrev pub is_later : Option ℕ → ℕ → Bool
is_later None date = false
is_later (Some day) date = nat_lt date day

abbrev pub is_unexpired : Option DataSet → ℕ → Bool
is_unexpired None date = false
is_unexpired (Some set) date = is_later set.expires date

-- a generation that rolls off loses its number; its set is scratched where the group says so and it is expired
abbrev pub scratched_unless : Bool → Store → Key → List ℕ → Store
scratched_unless true s key serial = s
scratched_unless false s key serial = with_set s key serial None

abbrev pub rolled_off : Bool → ℕ → Store → Key → List ℕ → Store
rolled_off scratch date s key serial = if scratch then scratched_unless (is_unexpired (s.set key serial) date) s key serial else s

abbrev pub after_rolling : Result Rolled GroupFault → GroupState → List ℕ → ℕ → Store → Store
after_rolling (Ok (Removed low serial)) g base date s = rolled_off g.scratch date s (Named (generation_name base low)) serial
after_rolling (Ok Entered) g base date s = s
after_rolling (Ok Lowest) g base date s = s
after_rolling (Ok Same) g base date s = s
after_rolling (Err f) g base date s = s

-- a generation entered in its group
abbrev pub generation_entered_by : Option Member → List ℕ → List ℕ → ℕ → Store → Store
generation_entered_by None base serial date s = s
generation_entered_by (Some m) base serial date s =
    after_rolling (entered m.1 m.0 serial) m.1 base date (with_entry s base (Some (Group (with_entered m.1 m.0 serial))))

abbrev pub generation_entered : Store → Key → List ℕ → ℕ → Store
generation_entered s (Named name) serial date = generation_entered_by (member_of s name) (base_of name) serial date s
generation_entered s (Relative base sign amount) serial date = s
generation_entered s (Temporary name) serial date = s
generation_entered s (Unnamed step dd) serial date = s

-- a name entered
abbrev pub name_entered : Store → Key → List ℕ → Store
name_entered s (Named name) serial = with_entry s name (Some (Volume serial))
name_entered s (Relative base sign amount) serial = s
name_entered s (Temporary name) serial = s
name_entered s (Unnamed step dd) serial = s

-- a set that is cut keeps the tracks that its records fill
abbrev pub cut : DataSet → DataSet
cut set = record { tracks = min set.tracks (tracks_for (length set.records)); expires = set.expires; records = set.records }

abbrev pub cut_at : Option DataSet → Store → Key → List ℕ → Store
cut_at None s key serial = s
cut_at (Some set) s key serial = with_set s key serial (Some (cut set))

-- the store of lists: of two in one place the first counts
abbrev pub set_in : List SoloSet → Key → List ℕ → Option DataSet
set_in [] key serial = None
set_in (x ∷ xs) key serial = if same_key key x.key && bytes_eq serial x.serial then Some x.set else set_in xs key serial

abbrev pub entry_in : List SoloEntry → List ℕ → Option CatEntry
entry_in [] name = None
entry_in (x ∷ xs) name = if bytes_eq name x.name then Some x.entry else entry_in xs name

abbrev pub store_of : SoloStore → Store
store_of s = record { set = λ key serial. set_in s.sets key serial; catalog = λ name. entry_in s.catalog name }
