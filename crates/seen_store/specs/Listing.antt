-- Sets by their places, and entries by their names, as the lists of a store; and such lists changed at one place.
use Rattle.std.specs.Prelude.{◌≡◌, ℕ, ◌&&◌, List, map, Option, Some, None, if◌then◌else◌}
use Rattle.std.specs.Str.{bytes_eq}
use Rattle.jname_core.specs.declared.key.Key.{Key}
use Rattle.group_core.specs.declared.entry.CatEntry.{CatEntry}
use Rattle.jcl_meaning.specs.declared.store.DataSet.{DataSet}
use Rattle.jcl_meaning.specs.declared.store.SoloEntry.{SoloEntry}
use Rattle.jcl_meaning.specs.declared.store.SoloSet.{SoloSet}
use Rattle.jcl_meaning.specs.Names.{same_key}
use Rattle.jcl_meaning.specs.Stores.{entry_in, set_in}
use Rattle.seen_store.specs.declared.place.SetPlace.{SetPlace}

abbrev pub PlacedSets : Type 0
PlacedSets = List (SetPlace × DataSet)

abbrev pub NamedEntries : Type 0
NamedEntries = List (List ℕ × CatEntry)

abbrev pub set_of : SetPlace × DataSet → SoloSet
set_of e = record { serial = e.0.serial; key = e.0.key; set = e.1 }

abbrev pub sets_of : PlacedSets → List SoloSet
sets_of sets = map set_of sets

abbrev pub entry_of : List ℕ × CatEntry → SoloEntry
entry_of e = record { name = e.0; entry = e.1 }

abbrev pub entries_of : NamedEntries → List SoloEntry
entries_of entries = map entry_of entries

-- they are those of a list, of two in one place the first
abbrev pub AreSets : PlacedSets → List SoloSet → Type 0
AreSets sets list = (key : Key) (serial : List ℕ) → set_in (sets_of sets) key serial ≡ set_in list key serial

abbrev pub AreEntries : NamedEntries → List SoloEntry → Type 0
AreEntries entries list = (name : List ℕ) → entry_in (entries_of entries) name ≡ entry_in list name

-- at one place there is now this, or nothing
abbrev pub WritesSet : PlacedSets → PlacedSets → Key → List ℕ → Option DataSet → Type 0
WritesSet old new key serial there = (k : Key) (v : List ℕ) →
    set_in (sets_of new) k v ≡ if same_key k key && bytes_eq v serial then there else set_in (sets_of old) k v

abbrev pub WritesEntry : NamedEntries → NamedEntries → List ℕ → Option CatEntry → Type 0
WritesEntry old new name there = (n : List ℕ) →
    entry_in (entries_of new) n ≡ if bytes_eq n name then there else entry_in (entries_of old) n

-- what is there, if anything is, is changed
abbrev pub ChangesSetBy : Option DataSet → (DataSet → DataSet) → PlacedSets → PlacedSets → Key → List ℕ → Type 0
ChangesSetBy None f old new key serial = sets_of new ≡ sets_of old
ChangesSetBy (Some set) f old new key serial = WritesSet old new key serial (Some (f set))

abbrev pub ChangesSet : (DataSet → DataSet) → PlacedSets → PlacedSets → Key → List ℕ → Type 0
ChangesSet f old new key serial = ChangesSetBy (set_in (sets_of old) key serial) f old new key serial

abbrev pub ChangesEntryBy : Option CatEntry → (CatEntry → CatEntry) → NamedEntries → NamedEntries → List ℕ → Type 0
ChangesEntryBy None f old new name = entries_of new ≡ entries_of old
ChangesEntryBy (Some entry) f old new name = WritesEntry old new name (Some (f entry))

abbrev pub ChangesEntry : (CatEntry → CatEntry) → NamedEntries → NamedEntries → List ℕ → Type 0
ChangesEntry f old new name = ChangesEntryBy (entry_in (entries_of old) name) f old new name
