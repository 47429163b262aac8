-- What a job writes under names that it holds stays within them.
use Rattle.std.proofs.Common.{◌≡◌, ◌&&◌, ℕ, Bool, true, false, cond, List, Option, Some, None, refl, sym, ap, ◌∙◌, subst}
use Rattle.std.specs.Prelude.{is_some}
use Rattle.std.specs.Str.{bytes_eq}
use Rattle.std.proofs.lemmas.Bool.{both_ways}
use Rattle.jname_core.specs.declared.key.Key.{Key}
use Rattle.jname_core.specs.declared.key.Key.TheVariants.{Named, Relative, Temporary, Unnamed}
use Rattle.jname_core.specs.Generations.{base_of}
use Rattle.group_core.specs.declared.entry.CatEntry.{CatEntry}
use Rattle.group_core.specs.Entries.{group_in, volume_in}
use Rattle.jcl_meaning.specs.declared.names.HeldName.{HeldName}
use Rattle.jcl_meaning.specs.declared.store.DataSet.{DataSet}
use Rattle.jcl_meaning.specs.Parts.{but_for_tracks, is_alone, is_among}
use Rattle.jcl_meaning.specs.Stores.{Store, cut, cut_at, with_entry, with_set, with_set_there}
use Rattle.part_laws.specs.Fits.{sees_alone, sees_set}
use Rattle.part_laws.specs.Keeping.{StaysWithin}
use Rattle.part_laws.proofs.SameReads.{seen_if_alone}
use Rattle.part_laws.proofs.SameWrites.{same_bytes}

module _ (names : List HeldName) where
  pub within_same : (s : Store) → StaysWithin names s s
  within_same s =
      record { unheld = λ name serial h. refl; shared = λ name serial h. refl; volumes = λ name h. refl; groups = λ name h. refl; bases = λ name. refl }

  pub within_along : (s t u : Store) → StaysWithin names s t → StaysWithin names t u → StaysWithin names s u
  within_along s t u p q = record {
    unheld = λ name serial h. p.unheld name serial h ∙ q.unheld name serial h;
    shared = λ name serial h. p.shared name serial h ∙ q.shared name serial h;
    volumes = λ name h. p.volumes name h ∙ q.volumes name h;
    groups = λ name h. p.groups name h ∙ q.groups name h;
    bases = λ name. p.bases name ∙ q.bases name;
  }

  -- a set that the job sees, written: where it is not held alone, with what was there but for its tracks
  unheld_written : (n name : List ℕ) (x a : Option DataSet) (here there : Bool) → bytes_eq n name ≡ here → is_among names (base_of n) ≡ false →
      is_among names (base_of name) ≡ true → a ≡ cond (here && there) x a
  unheld_written n name x a true true e h seen =
      absurd (both_ways (is_among names (base_of name)) (subst (λ (m : List ℕ). is_among names (base_of m) ≡ false) (same_bytes n name e) h) seen)
  unheld_written n name x a true false e h seen = refl
  unheld_written n name x a false there e h seen = refl

  shared_written : (s : Store) (n name v serial : List ℕ) (x : Option DataSet) (here there : Bool) → bytes_eq n name ≡ here → bytes_eq v serial ≡ there →
      is_alone names (base_of n) ≡ false → (is_alone names (base_of name) ≡ false → but_for_tracks (s.set (Named name) serial) ≡ but_for_tracks x) →
      but_for_tracks (s.set (Named n) v) ≡ but_for_tracks (cond (here && there) x (s.set (Named n) v))
  shared_written s n name v serial x true true en ev h same =
      let is : n ≡ name = same_bytes n name en in
      let at : v ≡ serial = same_bytes v serial ev in
      ap but_for_tracks (λ i. s.set (Named (is i)) (at i)) ∙ same (subst (λ (m : List ℕ). is_alone names (base_of m) ≡ false) is h)
  shared_written s n name v serial x true false en ev h same = refl
  shared_written s n name v serial x false there en ev h same = refl

  pub set_within : (s : Store) (key : Key) (serial : List ℕ) (x : Option DataSet) → sees_set names key ≡ true →
      (sees_alone names key ≡ false → but_for_tracks (s.set key serial) ≡ but_for_tracks x) → StaysWithin names s (with_set s key serial x)
  set_within s (Named name) serial x seen same = record {
    unheld = λ n v h. unheld_written n name x (s.set (Named n) v) (bytes_eq n name) (bytes_eq v serial) refl h seen;
    shared = λ n v h. shared_written s n name v serial x (bytes_eq n name) (bytes_eq v serial) refl refl h same;
    volumes = λ n h. refl;
    groups = λ n h. refl;
    bases = λ n. refl;
  }
  set_within s (Relative base sign amount) serial x seen same = absurd cc
  set_within s (Temporary name) serial x seen same =
      record { unheld = λ n v h. refl; shared = λ n v h. refl; volumes = λ n h. refl; groups = λ n h. refl; bases = λ n. refl }
  set_within s (Unnamed step dd) serial x seen same =
      record { unheld = λ n v h. refl; shared = λ n v h. refl; volumes = λ n h. refl; groups = λ n h. refl; bases = λ n. refl }

  pub alone_within : (s : Store) (key : Key) (serial : List ℕ) (x : Option DataSet) → sees_alone names key ≡ true →
      StaysWithin names s (with_set s key serial x)
  alone_within s key serial x alone = set_within s key serial x (seen_if_alone names key alone) (λ h. absurd (both_ways (sees_alone names key) h alone))

  -- a set that is there, and one that is cut
  pub there_within : (s : Store) (key : Key) (serial : List ℕ) (there : Option DataSet) (set : DataSet) → sees_alone names key ≡ true →
      StaysWithin names s (with_set_there there set s key serial)
  there_within s key serial None set alone = within_same s
  there_within s key serial (Some a) set alone = alone_within s key serial (Some set) alone

  pub cut_within : (s : Store) (key : Key) (serial : List ℕ) (there : Option DataSet) → s.set key serial ≡ there → sees_set names key ≡ true →
      StaysWithin names s (cut_at there s key serial)
  cut_within s key serial None e seen = within_same s
  cut_within s key serial (Some set) e seen = set_within s key serial (Some (cut set)) seen (λ h. ap but_for_tracks e)

  -- an entry
  abbrev pub IsEntryKept : List ℕ → Option CatEntry → Option CatEntry → Type 0
  IsEntryKept name x y =
      (is_alone names (base_of name) ≡ false → volume_in x ≡ volume_in y) × (is_alone names name ≡ false → group_in x ≡ group_in y) ×
      (is_some (group_in x) ≡ is_some (group_in y))

  kept_or_entered : (s : Store) (n name : List ℕ) (entry : Option CatEntry) (here : Bool) → bytes_eq n name ≡ here → IsEntryKept name (s.catalog name) entry →
      IsEntryKept n (s.catalog n) (cond here entry (s.catalog n))
  kept_or_entered s n name entry true e kept =
      subst (λ (m : List ℕ). IsEntryKept m (s.catalog m) entry) (sym (same_bytes n name e)) kept
  kept_or_entered s n name entry false e kept = (λ h. refl, λ h. refl, refl)

  pub entry_within : (s : Store) (name : List ℕ) (entry : Option CatEntry) → IsEntryKept name (s.catalog name) entry →
      StaysWithin names s (with_entry s name entry)
  entry_within s name entry kept = record {
    unheld = λ n v h. refl;
    shared = λ n v h. refl;
    volumes = λ n. (kept_or_entered s n name entry (bytes_eq n name) refl kept).0;
    groups = λ n. (kept_or_entered s n name entry (bytes_eq n name) refl kept).1;
    bases = λ n. (kept_or_entered s n name entry (bytes_eq n name) refl kept).2;
  }
