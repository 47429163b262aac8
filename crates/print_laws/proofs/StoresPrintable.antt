-- What changes of a store leave printable.
use Rattle.std.proofs.Common.{◌&&◌, ℕ, Bool, true, false, List, Option, Some, None, Result, Ok, Err}
use Rattle.std.specs.Prelude.{IfSome}
use Rattle.std.specs.Str.{bytes_eq}
use Rattle.jname_core.specs.declared.key.Key.{Key}
use Rattle.jname_core.specs.declared.key.Key.TheVariants.{Named, Relative, Temporary, Unnamed}
use Rattle.jname_core.specs.Generations.{base_of, generation_of}
use Rattle.group_core.specs.declared.entry.CatEntry.{CatEntry}
use Rattle.group_core.specs.declared.entry.CatEntry.TheVariants.{Group, Volume}
use Rattle.group_core.specs.declared.group.GroupFault.{GroupFault}
use Rattle.group_core.specs.declared.group.Rolled.{Rolled}
use Rattle.group_core.specs.declared.group.Rolled.TheVariants.{Entered, Lowest, Removed, Same}
use Rattle.group_core.specs.Entries.{Member}
use Rattle.group_core.specs.Groups.{GroupState, entered, with_entered}
use Rattle.jcl_meaning.specs.declared.state.Change.{Change}
use Rattle.jcl_meaning.specs.declared.state.Change.TheVariants as change
use Rattle.jcl_meaning.specs.declared.store.DataSet.{DataSet}
use Rattle.jcl_meaning.specs.Dispositions.{changed}
use Rattle.jcl_meaning.specs.Names.{same_key}
use Rattle.jcl_meaning.specs.Stores.{Store, after_rolling, catalogued, cut, cut_at, generation_entered, generation_entered_by, group_of, is_unexpired, member_of, name_entered, rolled_off, scratched_unless, uncatalogued, uncatalogued_by, volume_of, with_entry, with_set, with_set_there}
use Rattle.line_laws.specs.Printable.{IsPrintable, IsPrintableName}
use Rattle.print_laws.specs.Printable.{IsPrintableCatEntry, IsPrintableSet, IsPrintableStore}
use Rattle.print_laws.proofs.GroupsPrintable.{IsPrintableMember, either, found_printable, group_printable, member_printable, with_entered_printable, without_printable}

abbrev pub IsPrintableThere : Option DataSet → Type 0
IsPrintableThere there = IfSome there IsPrintableSet

abbrev IsPrintableEntered : Option CatEntry → Type 0
IsPrintableEntered entry = IfSome entry IsPrintableCatEntry

-- sets
pub set_printable : (s : Store) (key : Key) (serial : List ℕ) (there : Option DataSet) → IsPrintableStore s → IsPrintableThere there →
    IsPrintableStore (with_set s key serial there)
set_printable s key serial there h p = record {
  sets = λ k v. either IsPrintableThere (same_key k key && bytes_eq v serial) there (s.set k v) p (h.sets k v);
  entries = h.entries;
}

pub there_printable : (s : Store) (key : Key) (serial : List ℕ) (there : Option DataSet) (set : DataSet) → IsPrintableStore s → IsPrintableSet set →
    IsPrintableStore (with_set_there there set s key serial)
there_printable s key serial None set h p = h
there_printable s key serial (Some a) set h p = set_printable s key serial (Some set) h p

pub cut_printable : (s : Store) (key : Key) (serial : List ℕ) (there : Option DataSet) → IsPrintableStore s → IsPrintableThere there →
    IsPrintableStore (cut_at there s key serial)
cut_printable s key serial None h p = h
cut_printable s key serial (Some set) h p = set_printable s key serial (Some (cut set)) h p

-- entries
entry_printable : (s : Store) (name : List ℕ) (entry : Option CatEntry) → IsPrintableStore s → IsPrintableEntered entry →
    IsPrintableStore (with_entry s name entry)
entry_printable s name entry h p =
    record { sets = h.sets; entries = λ n. either IsPrintableEntered (bytes_eq n name) entry (s.catalog n) p (h.entries n) }

number_printable : (s : Store) (name : List ℕ) → IsPrintableStore s → IfSome (member_of s name) IsPrintableMember
number_printable s name h =
    member_printable (generation_of name) (group_of s (base_of name)) (group_printable (s.catalog (base_of name)) (h.entries (base_of name)))

pub volume_of_printable : (s : Store) (name : List ℕ) → IsPrintableStore s → IsPrintableName (volume_of s name)
volume_of_printable s name h = found_printable (member_of s name) (s.catalog name) (number_printable s name h) (h.entries name)

pub catalogued_printable : (s : Store) (key : Key) → IsPrintableStore s → IsPrintableName (catalogued s key)
catalogued_printable s (Named name) h = volume_of_printable s name h
catalogued_printable s (Relative base sign amount) h = tt
catalogued_printable s (Temporary name) h = tt
catalogued_printable s (Unnamed step dd) h = tt

-- an entry taken out
taken_out_printable : (m : Option Member) (s : Store) (name : List ℕ) → IsPrintableStore s → IfSome m IsPrintableMember →
    IsPrintableStore (uncatalogued_by m s name)
taken_out_printable (Some m) s name h p = entry_printable s (base_of name) _ h (without_printable m.1.generations m.0 p)
taken_out_printable None s name h p = entry_printable s name None h tt

uncatalogued_printable : (s : Store) (key : Key) → IsPrintableStore s → IsPrintableStore (uncatalogued s key)
uncatalogued_printable s (Named name) h = taken_out_printable (member_of s name) s name h (number_printable s name h)
uncatalogued_printable s (Relative base sign amount) h = h
uncatalogued_printable s (Temporary name) h = h
uncatalogued_printable s (Unnamed step dd) h = h

-- and one made
name_printable : (s : Store) (key : Key) (serial : List ℕ) → IsPrintableStore s → IsPrintable serial → IsPrintableStore (name_entered s key serial)
name_printable s (Named name) serial h p = entry_printable s name (Some (Volume serial)) h p
name_printable s (Relative base sign amount) serial h p = h
name_printable s (Temporary name) serial h p = h
name_printable s (Unnamed step dd) serial h p = h

scratched_printable : (b : Bool) (s : Store) (key : Key) (serial : List ℕ) → IsPrintableStore s → IsPrintableStore (scratched_unless b s key serial)
scratched_printable true s key serial h = h
scratched_printable false s key serial h = set_printable s key serial None h tt

rolled_printable : (scratch : Bool) (date : ℕ) (s : Store) (key : Key) (serial : List ℕ) → IsPrintableStore s →
    IsPrintableStore (rolled_off scratch date s key serial)
rolled_printable true date s key serial h = scratched_printable (is_unexpired (s.set key serial) date) s key serial h
rolled_printable false date s key serial h = h

after_rolling_printable : (answer : Result Rolled GroupFault) (g : GroupState) (base : List ℕ) (date : ℕ) (s : Store) → IsPrintableStore s →
    IsPrintableStore (after_rolling answer g base date s)
after_rolling_printable (Ok (Removed low serial)) g base date s h = rolled_printable g.scratch date s _ serial h
after_rolling_printable (Ok Entered) g base date s h = h
after_rolling_printable (Ok Lowest) g base date s h = h
after_rolling_printable (Ok Same) g base date s h = h
after_rolling_printable (Err f) g base date s h = h

generation_by_printable : (m : Option Member) (base serial : List ℕ) (date : ℕ) (s : Store) → IsPrintableStore s → IfSome m IsPrintableMember →
    IsPrintable serial → IsPrintableStore (generation_entered_by m base serial date s)
generation_by_printable None base serial date s h k p = h
generation_by_printable (Some m) base serial date s h k p =
    after_rolling_printable (entered m.1 m.0 serial) m.1 base date (with_entry s base (Some (Group (with_entered m.1 m.0 serial))))
    (entry_printable s base (Some (Group (with_entered m.1 m.0 serial))) h (with_entered_printable m.1 m.0 serial k p))

generation_printable : (s : Store) (key : Key) (serial : List ℕ) (date : ℕ) → IsPrintableStore s → IsPrintable serial →
    IsPrintableStore (generation_entered s key serial date)
generation_printable s (Named name) serial date h p = generation_by_printable (member_of s name) (base_of name) serial date s h (number_printable s name h) p
generation_printable s (Relative base sign amount) serial date h p = h
generation_printable s (Temporary name) serial date h p = h
generation_printable s (Unnamed step dd) serial date h p = h

-- any change
pub changed_printable : (c : Change) (s : Store) (key : Key) (serial : List ℕ) (date : ℕ) → IsPrintableStore s → IsPrintable serial →
    IsPrintableStore (changed c s key serial date)
changed_printable change.Nothing s key serial date h p = h
changed_printable change.Scratch s key serial date h p = set_printable s key serial None h tt
changed_printable change.ScratchAndUncatalog s key serial date h p =
    uncatalogued_printable (with_set s key serial None) key (set_printable s key serial None h tt)
changed_printable change.Catalog s key serial date h p = name_printable s key serial h p
changed_printable change.Uncatalog s key serial date h p = uncatalogued_printable s key h
changed_printable change.EnterGeneration s key serial date h p = generation_printable s key serial date h p
