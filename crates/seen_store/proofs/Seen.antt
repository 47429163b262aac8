-- What a store with other sets or other entries is seen as.
use Rattle.std.proofs.Common.{◌≡◌, ◌∙◌, ℕ, zero, suc, List, [], Option, Some, None, All, slice_index_or, sym, ap, subst}
use Rattle.std.proofs.lemmas.List.Elements.{All-map}
use Rattle.group_core.specs.declared.entry.CatEntry.{CatEntry}
use Rattle.group_core.specs.declared.entry.CatEntry.TheVariants.{Volume, Group}
use Rattle.group_core.specs.Entries.{Member, group_in, member_by}
use Rattle.group_core.specs.Groups.{GroupState}
use Rattle.jname_core.specs.declared.key.Key.{Key}
use Rattle.jname_core.specs.Generations.{base_of, generation_of}
use Rattle.jcl_meaning.specs.declared.store.DataSet.{DataSet}
use Rattle.jcl_meaning.specs.declared.store.SoloSet.{SoloSet}
use Rattle.jcl_meaning.specs.declared.store.SoloStore.{SoloStore}
use Rattle.jcl_meaning.specs.Programs.{or_nothing}
use Rattle.jcl_meaning.specs.Stores.{Store, cut, cut_at, entry_in, member_of, set_in, store_of, uncatalogued_by, with_entry, with_set, with_set_there}
use Rattle.store_core.specs.Actions.{changed_at}
use Rattle.store_core.specs.Entered.{entry_with, entry_without}
use Rattle.store_core.specs.EnteredNumbers.{TakesNumber, with_number, with_number_by}
use Rattle.seen_store.specs.Listing.{AreEntries, AreSets, ChangesEntry, ChangesEntryBy, ChangesSet, ChangesSetBy, NamedEntries, PlacedSets, WritesEntry, WritesSet, entries_of, entry_of, set_of, sets_of}
use Rattle.seen_store.proofs.Names.{entry_found, named}
use Rattle.seen_store.proofs.Places.{found, set_found}

abbrev pub listed : PlacedSets → NamedEntries → SoloStore
listed sets entries = record { volumes = []; sets = sets_of sets; catalog = entries_of entries }

-- made of a store of lists
pub seen_made : (sets : PlacedSets) (entries : NamedEntries) (store : SoloStore) → AreSets sets store.sets → AreEntries entries store.catalog →
    store_of (listed sets entries) ≡ store_of store
seen_made sets entries store s e = λ i. record { set = λ key serial. s key serial i; catalog = λ name. e name i }

-- sets
module _ (old new : PlacedSets) (entries : NamedEntries) (key : Key) (serial : List ℕ) where
  pub seen_written : (there : Option DataSet) → WritesSet old new key serial there →
      store_of (listed new entries) ≡ with_set (store_of (listed old entries)) key serial there
  seen_written there h = λ i. record { set = λ k v. h k v i; catalog = λ name. entry_in (entries_of entries) name }

  seen_still : sets_of new ≡ sets_of old → store_of (listed new entries) ≡ store_of (listed old entries)
  seen_still h = ap (λ (sets : List SoloSet). store_of (record { volumes = []; sets = sets; catalog = entries_of entries })) h

  changed_by : (f : DataSet → DataSet) (there : Option DataSet) → ChangesSetBy there f old new key serial →
      store_of (listed new entries) ≡ with_set_there there (f (or_nothing there)) (store_of (listed old entries)) key serial
  changed_by f None h = seen_still h
  changed_by f (Some set) h = seen_written (Some (f set)) h

  pub seen_changed : (f : DataSet → DataSet) → ChangesSet f old new key serial →
      store_of (listed new entries) ≡ changed_at f (store_of (listed old entries)) key serial
  seen_changed f h = changed_by f (set_in (sets_of old) key serial) h

  cut_by : (there : Option DataSet) → ChangesSetBy there cut old new key serial →
      store_of (listed new entries) ≡ cut_at there (store_of (listed old entries)) key serial
  cut_by None h = seen_still h
  cut_by (Some set) h = seen_written (Some (cut set)) h

  pub seen_cut : ChangesSet cut old new key serial →
      store_of (listed new entries) ≡ cut_at (set_in (sets_of old) key serial) (store_of (listed old entries)) key serial
  seen_cut h = cut_by (set_in (sets_of old) key serial) h

-- entries
module _ (sets : PlacedSets) (old new : NamedEntries) (name : List ℕ) where
  pub seen_entered : (there : Option CatEntry) → WritesEntry old new name there →
      store_of (listed sets new) ≡ with_entry (store_of (listed sets old)) name there
  seen_entered there h = λ i. record { set = λ key serial. set_in (sets_of sets) key serial; catalog = λ n. h n i }

  numbered_by : (number : ℕ) (serial : List ℕ) (there : Option CatEntry) → TakesNumber (group_in there) number serial →
      ChangesEntryBy there (λ e. entry_with e number serial) old new name →
      store_of (listed sets new) ≡ with_number_by (group_in there) (store_of (listed sets old)) name number serial
  numbered_by number serial None t h = absurd t
  numbered_by number serial (Some (Volume v)) t h = absurd t
  numbered_by number serial (Some (Group g)) t h = seen_entered (Some (entry_with (Group g) number serial)) h

  pub seen_numbered : (number : ℕ) (serial : List ℕ) → TakesNumber (group_in (entry_in (entries_of old) name)) number serial →
      ChangesEntry (λ e. entry_with e number serial) old new name →
      store_of (listed sets new) ≡ with_number (store_of (listed sets old)) name number serial
  seen_numbered number serial t h = numbered_by number serial (entry_in (entries_of old) name) t h

-- a name taken out that is in no group, or that is
pub seen_uncatalogued : (sets : PlacedSets) (old new : NamedEntries) (name : List ℕ) → None ≡ member_of (store_of (listed sets old)) name →
    WritesEntry old new name None →
    store_of (listed sets new) ≡ uncatalogued_by (member_of (store_of (listed sets old)) name) (store_of (listed sets old)) name
seen_uncatalogued sets old new name none h =
    seen_entered sets old new name None h ∙ ap (λ (m : Option Member). uncatalogued_by m (store_of (listed sets old)) name) none

group_entered : (entry : Option CatEntry) (g : GroupState) → group_in entry ≡ Some g → entry ≡ Some (Group g)
group_entered None g h = absurd cc
group_entered (Some (Volume v)) g h = absurd cc
group_entered (Some (Group k)) g h = ap (λ (x : GroupState). Some (Group x)) cc

member_entered : (number : Option ℕ) (group : Option GroupState) (m : Member) → member_by number group ≡ Some m → group ≡ Some m.1
member_entered None group m h = absurd cc
member_entered (Some zero) group m h = absurd cc
member_entered (Some (suc n)) None m h = absurd cc
member_entered (Some (suc n)) (Some g) m h = let e : (suc n, g) ≡ m = cc in ap (λ (x : Member). Some x.1) e

pub seen_unnumbered : (sets : PlacedSets) (old new : NamedEntries) (name base : List ℕ) (m : Member) → Some m ≡ member_of (store_of (listed sets old)) name →
    base ≡ base_of name → ChangesEntry (λ e. entry_without e m.0) old new base →
    store_of (listed sets new) ≡ uncatalogued_by (member_of (store_of (listed sets old)) name) (store_of (listed sets old)) name
seen_unnumbered sets old new name base m is its h =
    let s : Store = store_of (listed sets old) in
    let there : entry_in (entries_of old) (base_of name) ≡ Some (Group m.1) =
    group_entered (entry_in (entries_of old) (base_of name)) m.1
    (member_entered (generation_of name) (group_in (entry_in (entries_of old) (base_of name))) m (sym is)) in
    let there_too : entry_in (entries_of old) base ≡ Some (Group m.1) = ap (entry_in (entries_of old)) its ∙ there in
    let writes : WritesEntry old new base (Some (entry_without (Group m.1) m.0)) =
    subst (λ (e : Option CatEntry). ChangesEntryBy e (λ e. entry_without e m.0) old new base) there_too h in
    seen_entered sets old new base (Some (entry_without (Group m.1) m.0)) writes
    ∙ ap (λ (b : List ℕ). with_entry s b (Some (entry_without (Group m.1) m.0))) its
    ∙ ap (λ (o : Option Member). uncatalogued_by o s name) is

-- what is found at each place is what the list has there
pub sets_found : (sets : PlacedSets) → All (λ e. found sets e.0 ≡ Some e.1) sets → All (λ x. set_in (sets_of sets) x.key x.serial ≡ Some x.set) (sets_of sets)
sets_found sets h =
    All-map (λ x. set_in (sets_of sets) x.key x.serial ≡ Some x.set) set_of sets
    (λ k d l. sym (set_found sets (slice_index_or sets k d).0.key (slice_index_or sets k d).0.serial) ∙ h k d l)

pub entries_found : (entries : NamedEntries) → All (λ e. named entries e.0 ≡ Some e.1) entries →
    All (λ x. entry_in (entries_of entries) x.name ≡ Some x.entry) (entries_of entries)
entries_found entries h =
    All-map (λ x. entry_in (entries_of entries) x.name ≡ Some x.entry) entry_of entries
    (λ k d l. sym (entry_found entries (slice_index_or entries k d).0) ∙ h k d l)
