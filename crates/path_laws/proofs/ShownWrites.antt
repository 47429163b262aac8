-- Two stores that show the same still do where a job writes the same in both.
use Rattle.std.proofs.Common.{◌≡◌, ◌&&◌, ℕ, Bool, true, false, cond, List, [], ◌∷◌, Option, Some, None, Result, Ok, Err, refl, sym, ap, ◌∙◌, subst}
use Rattle.std.specs.Str.{bytes_eq}
use Rattle.jname_core.specs.declared.key.Key.{Key}
use Rattle.jname_core.specs.declared.key.Key.TheVariants.{Named, Relative, Temporary, Unnamed}
use Rattle.jname_core.specs.Generations.{base_of, generation_name}
use Rattle.group_core.specs.declared.entry.CatEntry.{CatEntry}
use Rattle.group_core.specs.declared.entry.CatEntry.TheVariants.{Volume, Group}
use Rattle.group_core.specs.declared.group.GroupFault.{GroupFault}
use Rattle.group_core.specs.declared.group.Rolled.{Rolled}
use Rattle.group_core.specs.declared.group.Rolled.TheVariants.{Entered, Removed, Lowest, Same}
use Rattle.group_core.specs.Entries.{Member}
use Rattle.group_core.specs.Groups.{GroupState, entered, with_entered, without}
use Rattle.jcl_plan.specs.declared.plan.SetPlan.{SetPlan}
use Rattle.jcl_meaning.specs.declared.names.HeldName.{HeldName}
use Rattle.jcl_meaning.specs.declared.state.Change.{Change}
use Rattle.jcl_meaning.specs.declared.state.Change.TheVariants as change
use Rattle.jcl_meaning.specs.declared.state.DdState.{DdState}
use Rattle.jcl_meaning.specs.declared.state.TakenSet.{TakenSet}
use Rattle.jcl_meaning.specs.declared.store.DataSet.{DataSet}
use Rattle.jcl_meaning.specs.declared.take.How.{How}
use Rattle.jcl_meaning.specs.declared.take.How.TheVariants as how
use Rattle.jcl_meaning.specs.Dispositions.{changed, is_deleted_back}
use Rattle.jcl_meaning.specs.EndActs.{tracks_released}
use Rattle.jcl_meaning.specs.Names.{same_key}
use Rattle.jcl_meaning.specs.Parts.{sees_key, seen_entry}
use Rattle.jcl_meaning.specs.States.{Fixed}
use Rattle.jcl_meaning.specs.Stores.{Store, after_rolling, cut, cut_at, generation_entered, generation_entered_by, is_unexpired, member_of, name_entered}
use Rattle.jcl_meaning.specs.Stores.{rolled_off, scratched_unless, uncatalogued, uncatalogued_by, with_entry, with_set}
use Rattle.jcl_meaning.specs.TakeActs.{all_given_back, new_set, set_given_back, store_made}
use Rattle.jcl_meaning.specs.Views.{shown_set}
use Rattle.part_laws.specs.Fits.{sees_set}
use Rattle.part_laws.proofs.SameWrites.{same_bytes}
use Rattle.path_laws.proofs.Shapes.{keys}
use Rattle.path_laws.proofs.Sights.{ShowAlike, TookAlike}
use Rattle.path_laws.proofs.ShownReads.{member_alike, same_expiry}

-- a set written in both
either_shown : (b : Bool) (x y a c : Option DataSet) (date : ℕ) → shown_set x date ≡ shown_set y date → shown_set a date ≡ shown_set c date →
    shown_set (cond b x a) date ≡ shown_set (cond b y c) date
either_shown true x y a c date here there = here
either_shown false x y a c date here there = there

either_entry : (names : List HeldName) (n : List ℕ) (b : Bool) (entry x y : Option CatEntry) → seen_entry names n x ≡ seen_entry names n y →
    seen_entry names n (cond b entry x) ≡ seen_entry names n (cond b entry y)
either_entry names n true entry x y e = refl
either_entry names n false entry x y e = e

-- a set written under a key that the job does not see
unseen_here : (names : List HeldName) (date : ℕ) (k key : Key) (x a : Option DataSet) (here there : Bool) → same_key k key ≡ here →
    sees_key names k ≡ true → sees_key names key ≡ false → shown_set a date ≡ shown_set (cond (here && there) x a) date
unseen_here names date k key x a true true e seen unseen =
    let other : sees_key names k ≡ false = ap (sees_key names) (keys k key e) ∙ unseen in
    absurd (cc (seen, other))
unseen_here names date k key x a true false e seen unseen = refl
unseen_here names date k key x a false there e seen unseen = refl

-- a set that is cut is shown as before
cut_shown : (s : Store) (date : ℕ) (key : Key) (serial : List ℕ) (set : DataSet) → s.set key serial ≡ Some set → (k : Key) (v : List ℕ) (here there : Bool) →
    same_key k key ≡ here → bytes_eq v serial ≡ there → shown_set (cond (here && there) (Some (cut set)) (s.set k v)) date ≡ shown_set (s.set k v) date
cut_shown s date key serial set is k v true true e f =
    ap (λ (x : Option DataSet). shown_set x date) (sym is) ∙ (λ i. shown_set (s.set (sym (keys k key e) i) (sym (same_bytes v serial f) i)) date)
cut_shown s date key serial set is k v true false e f = refl
cut_shown s date key serial set is k v false there e f = refl

module _ (names : List HeldName) (date : ℕ) where
  abbrev Alike : Store → Store → Type 0
  Alike s t = ShowAlike names date s t

  itself : (s : Store) → Alike s s
  itself s = record { sets = λ key serial seen. refl; entries = λ name. refl }

  turned : (s t : Store) → Alike s t → Alike t s
  turned s t h = record { sets = λ key serial seen. sym (h.sets key serial seen); entries = λ name. sym (h.entries name) }

  joined : (s t u : Store) → Alike s t → Alike t u → Alike s u
  joined s t u h g = record { sets = λ key serial seen. h.sets key serial seen ∙ g.sets key serial seen; entries = λ name. h.entries name ∙ g.entries name }

  set_written : (s t : Store) → Alike s t → (key : Key) (serial : List ℕ) (x y : Option DataSet) → shown_set x date ≡ shown_set y date →
      Alike (with_set s key serial x) (with_set t key serial y)
  set_written s t h key serial x y e = record {
    sets = λ k v seen. either_shown (same_key k key && bytes_eq v serial) x y (s.set k v) (t.set k v) date e (h.sets k v seen);
    entries = h.entries;
  }

  scratched : (s t : Store) → Alike s t → (key : Key) (serial : List ℕ) → Alike (with_set s key serial None) (with_set t key serial None)
  scratched s t h key serial = set_written s t h key serial None None refl

  entry_written : (s t : Store) → Alike s t → (name : List ℕ) (entry : Option CatEntry) → Alike (with_entry s name entry) (with_entry t name entry)
  entry_written s t h name entry =
      record { sets = h.sets; entries = λ n. either_entry names n (bytes_eq n name) entry (s.catalog n) (t.catalog n) (h.entries n) }

  -- a set that is made
  pub made_alike : (s t : Store) → Alike s t → (w : How) (fixed : Fixed) (p : SetPlan) (key : Key) (serial : List ℕ) →
      Alike (store_made w fixed p key serial s) (store_made w fixed p key serial t)
  made_alike s t h how.Made fixed p key serial = set_written s t h key serial (Some (new_set fixed p key)) (Some (new_set fixed p key)) refl
  made_alike s t h how.Found fixed p key serial = h
  made_alike s t h how.FoundByCatalog fixed p key serial = h
  made_alike s t h (how.Received made by_catalog) fixed p key serial = h

  -- entries and names
  by_member : (s t : Store) → Alike s t → (m : Option Member) (name : List ℕ) → Alike (uncatalogued_by m s name) (uncatalogued_by m t name)
  by_member s t h None name = entry_written s t h name None
  by_member s t h (Some m) name = entry_written s t h (base_of name) (Some (Group (record m.1 { generations = without m.1.generations m.0 })))

  uncatalogued_alike : (s t : Store) → Alike s t → (key : Key) → sees_set names key ≡ true → Alike (uncatalogued s key) (uncatalogued t key)
  uncatalogued_alike s t h (Named name) seen =
      subst (λ (m : Option Member). Alike (uncatalogued_by (member_of s name) s name) (uncatalogued_by m t name)) (member_alike names date s t h name seen)
      (by_member s t h (member_of s name) name)
  uncatalogued_alike s t h (Relative base sign amount) seen = h
  uncatalogued_alike s t h (Temporary name) seen = h
  uncatalogued_alike s t h (Unnamed step dd) seen = h

  name_alike : (s t : Store) → Alike s t → (key : Key) (serial : List ℕ) → Alike (name_entered s key serial) (name_entered t key serial)
  name_alike s t h (Named name) serial = entry_written s t h name (Some (Volume serial))
  name_alike s t h (Relative base sign amount) serial = h
  name_alike s t h (Temporary name) serial = h
  name_alike s t h (Unnamed step dd) serial = h

  -- a generation that rolls off: where the job sees it, both scratch it or neither does, and elsewhere that is not shown
  unseen_written : (s : Store) (key : Key) (serial : List ℕ) (x : Option DataSet) → sees_key names key ≡ false → Alike s (with_set s key serial x)
  unseen_written s key serial x unseen = record {
    sets = λ k v seen. unseen_here names date k key x (s.set k v) (same_key k key) (bytes_eq v serial) refl seen unseen;
    entries = λ name. refl;
  }

  scratched_alike : (s t : Store) → Alike s t → (key : Key) (serial : List ℕ) (x y seen : Bool) → sees_key names key ≡ seen → (seen ≡ true → x ≡ y) →
      Alike (scratched_unless x s key serial) (scratched_unless y t key serial)
  scratched_alike s t h key serial true true seen e same = h
  scratched_alike s t h key serial false false seen e same = scratched s t h key serial
  scratched_alike s t h key serial true false true e same = absurd (cc (same refl))
  scratched_alike s t h key serial false true true e same = absurd (cc (same refl))
  scratched_alike s t h key serial true false false e same = joined s t (with_set t key serial None) h (unseen_written t key serial None e)
  scratched_alike s t h key serial false true false e same =
      joined (with_set s key serial None) s t (turned s (with_set s key serial None) (unseen_written s key serial None e)) h

  rolled_off_alike : (s t : Store) → Alike s t → (scratch : Bool) (key : Key) (serial : List ℕ) →
      Alike (rolled_off scratch date s key serial) (rolled_off scratch date t key serial)
  rolled_off_alike s t h false key serial = h
  rolled_off_alike s t h true key serial =
      scratched_alike s t h key serial (is_unexpired (s.set key serial) date) (is_unexpired (t.set key serial) date) (sees_key names key) refl
      (λ seen. same_expiry (s.set key serial) (t.set key serial) date (h.sets key serial seen))

  rolling_alike : (s t : Store) → Alike s t → (r : Result Rolled GroupFault) (g : GroupState) (base : List ℕ) →
      Alike (after_rolling r g base date s) (after_rolling r g base date t)
  rolling_alike s t h (Ok (Removed low serial)) g base = rolled_off_alike s t h g.scratch (Named (generation_name base low)) serial
  rolling_alike s t h (Ok Entered) g base = h
  rolling_alike s t h (Ok Lowest) g base = h
  rolling_alike s t h (Ok Same) g base = h
  rolling_alike s t h (Err f) g base = h

  generation_by_member : (s t : Store) → Alike s t → (m : Option Member) (base serial : List ℕ) →
      Alike (generation_entered_by m base serial date s) (generation_entered_by m base serial date t)
  generation_by_member s t h None base serial = h
  generation_by_member s t h (Some m) base serial =
      let grown : Option CatEntry = Some (Group (with_entered m.1 m.0 serial)) in
      rolling_alike (with_entry s base grown) (with_entry t base grown) (entry_written s t h base grown) (entered m.1 m.0 serial) m.1 base

  generation_alike : (s t : Store) → Alike s t → (key : Key) (serial : List ℕ) → sees_set names key ≡ true →
      Alike (generation_entered s key serial date) (generation_entered t key serial date)
  generation_alike s t h (Named name) serial seen =
      subst (λ (m : Option Member). Alike (generation_entered_by (member_of s name) (base_of name) serial date s)
      (generation_entered_by m (base_of name) serial date t))
      (member_alike names date s t h name seen) (generation_by_member s t h (member_of s name) (base_of name) serial)
  generation_alike s t h (Relative base sign amount) serial seen = h
  generation_alike s t h (Temporary name) serial seen = h
  generation_alike s t h (Unnamed step dd) serial seen = h

  -- what a disposition changes, and the tracks that it releases
  pub changed_alike : (s t : Store) → Alike s t → (c : Change) (key : Key) (serial : List ℕ) → sees_set names key ≡ true →
      Alike (changed c s key serial date) (changed c t key serial date)
  changed_alike s t h change.Nothing key serial seen = h
  changed_alike s t h change.Scratch key serial seen = scratched s t h key serial
  changed_alike s t h change.ScratchAndUncatalog key serial seen =
      uncatalogued_alike (with_set s key serial None) (with_set t key serial None) (scratched s t h key serial) key seen
  changed_alike s t h change.Catalog key serial seen = name_alike s t h key serial
  changed_alike s t h change.Uncatalog key serial seen = uncatalogued_alike s t h key seen
  changed_alike s t h change.EnterGeneration key serial seen = generation_alike s t h key serial seen

  cut_alike : (s : Store) (key : Key) (serial : List ℕ) (x : Option DataSet) → s.set key serial ≡ x → Alike (cut_at x s key serial) s
  cut_alike s key serial None is = itself s
  cut_alike s key serial (Some set) is = record {
    sets = λ k v seen. cut_shown s date key serial set is k v (same_key k key) (bytes_eq v serial) refl refl;
    entries = λ name. refl;
  }

  released_alone : (s : Store) (b : Bool) (key : Key) (serial : List ℕ) → Alike (tracks_released b key serial s) s
  released_alone s false key serial = itself s
  released_alone s true key serial = cut_alike s key serial (s.set key serial) refl

  pub released_alike : (s t : Store) → Alike s t → (b : Bool) (key : Key) (serial : List ℕ) →
      Alike (tracks_released b key serial s) (tracks_released b key serial t)
  released_alike s t h b key serial =
      joined (tracks_released b key serial s) s (tracks_released b key serial t) (released_alone s b key serial)
      (joined s t (tracks_released b key serial t) h (turned (tracks_released b key serial t) t (released_alone t b key serial)))

  -- what a fault gives back
  given_back_alike : (s t : Store) → Alike s t → (x : Option TakenSet) → Alike (set_given_back x s) (set_given_back x t)
  given_back_alike s t h None = h
  given_back_alike s t h (Some x) = by_mark (is_deleted_back x)
    where
      by_mark : (b : Bool) → Alike (cond b (with_set s x.key x.serial None) s) (cond b (with_set t x.key x.serial None) t)
      by_mark true = scratched s t h x.key x.serial
      by_mark false = h

  pub all_given_back_alike : (s t : Store) → Alike s t → (xs ys : List DdState) → TookAlike xs ys → Alike (all_given_back xs s) (all_given_back ys t)
  all_given_back_alike s t h [] [] took = h
  all_given_back_alike s t h [] (y ∷ ys) took = absurd took
  all_given_back_alike s t h (x ∷ xs) [] took = absurd took
  all_given_back_alike s t h (x ∷ xs) (y ∷ ys) took =
      all_given_back_alike (set_given_back x.taken s) (set_given_back y.taken t)
      (subst (λ (z : Option TakenSet). Alike (set_given_back x.taken s) (set_given_back z t)) took.0 (given_back_alike s t h x.taken)) xs ys took.1
