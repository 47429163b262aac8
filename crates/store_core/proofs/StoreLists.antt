-- The store of lists, when sets and entries are put in and taken out.
use Rattle.std.proofs.Common.{◌≡◌, ℕ, Bool, true, false, not, cond, List, [], ◌∷◌, ◌++◌, Option, Some, None, refl, sym, ap, ◌∙◌}
use Rattle.std.proofs.lemmas.Bool.{true≢false}
use Rattle.std.specs.Str.{bytes_eq}
use Rattle.group_core.specs.declared.entry.CatEntry.{CatEntry}
use Rattle.jname_core.specs.declared.key.Key.{Key}
use Rattle.jcl_meaning.specs.declared.store.DataSet.{DataSet}
use Rattle.jcl_meaning.specs.declared.store.SoloEntry.{SoloEntry}
use Rattle.jcl_meaning.specs.declared.store.SoloSet.{SoloSet}
use Rattle.jcl_meaning.specs.declared.store.SoloStore.{SoloStore}
use Rattle.jcl_meaning.specs.Lists.{is_at, is_of, without_entries, without_sets}
use Rattle.jcl_meaning.specs.Stores.{entry_in, set_in, store_of, with_entry, with_set}
use Rattle.store_core.proofs.Keys.{bytes_eq-true, same_place, same_place-moved, same_place-true}

taken_out : {Y : Type 0} (here at : Bool) (y : Option Y) (rest : Option Y) → (here ≡ true → at ≡ true → ⊥) →
    cond here y (cond at None rest) ≡ cond at None (cond here y rest)
taken_out true true y rest h = absurd (h refl refl)
taken_out true false y rest h = refl
taken_out false at y rest h = refl

same_there : {Y : Type 0} (at : Bool) (y rest : Option Y) → cond at None rest ≡ cond at None (cond at y rest)
same_there true y rest = refl
same_there false y rest = refl

-- a place that is another's and not the one that is taken out
pub apart : (k : Key) (v : List ℕ) (key : Key) (serial : List ℕ) (x : SoloSet) → is_at key serial x ≡ false →
    same_place k v x.key x.serial ≡ true → same_place k v key serial ≡ true → ⊥
apart k v key serial x other here at =
    let p : (k ≡ key) × (v ≡ serial) = same_place-true k v key serial at in
    let q : same_place k v x.key x.serial ≡ same_place key serial x.key x.serial = λ i. same_place (p.0 i) (p.1 i) x.key x.serial in
    true≢false (sym here ∙ q ∙ other)

abbrev or_else : {Y : Type 0} → Option Y → Option Y → Option Y
or_else None other = other
or_else (Some y) other = Some y

found_first : {Y : Type 0} (b : Bool) (y : Y) (r other : Option Y) → cond b (Some y) (or_else r other) ≡ or_else (cond b (Some y) r) other
found_first true y r other = refl
found_first false y r other = refl

nothing_there : (b : Bool) (k : Key) (v : List ℕ) → set_in [] k v ≡ cond b None (set_in [] k v)
nothing_there true k v = refl
nothing_there false k v = refl

module _ (key : Key) (serial : List ℕ) where
  without_step : (x : SoloSet) (xs : List SoloSet) (k : Key) (v : List ℕ) (b : Bool) → is_at key serial x ≡ b →
      set_in (without_sets xs key serial) k v ≡ cond (same_place k v key serial) None (set_in xs k v) →
      set_in (cond (not b) (x ∷ without_sets xs key serial) (without_sets xs key serial)) k v
      ≡ cond (same_place k v key serial) None (cond (same_place k v x.key x.serial) (Some x.set) (set_in xs k v))
  without_step x xs k v true e ih =
      rw (same_place-moved k v key x.key serial x.serial e) (ih ∙ same_there (same_place k v key serial) (Some x.set) (set_in xs k v))
  without_step x xs k v false e ih =
      ap (cond (same_place k v x.key x.serial) (Some x.set)) ih
      ∙ taken_out (same_place k v x.key x.serial) (same_place k v key serial) (Some x.set) (set_in xs k v) (apart k v key serial x e)

  pub set_in-without : (xs : List SoloSet) (k : Key) (v : List ℕ) →
      set_in (without_sets xs key serial) k v ≡ cond (same_place k v key serial) None (set_in xs k v)
  set_in-without [] k v = nothing_there (same_place k v key serial) k v
  set_in-without (x ∷ xs) k v = without_step x xs k v (is_at key serial x) refl (set_in-without xs k v)

  set_in-append : (xs : List SoloSet) (y : DataSet) (k : Key) (v : List ℕ) →
      set_in (xs ++ record { serial = serial; key = key; set = y } ∷ []) k v ≡ or_else (set_in xs k v) (cond (same_place k v key serial) (Some y) None)
  set_in-append [] y k v = refl
  set_in-append (x ∷ xs) y k v =
      ap (cond (same_place k v x.key x.serial) (Some x.set)) (set_in-append xs y k v)
      ∙ found_first (same_place k v x.key x.serial) x.set (set_in xs k v) (cond (same_place k v key serial) (Some y) None)

  last_step : (b : Bool) (y : DataSet) (r : Option DataSet) → (b ≡ true → r ≡ None) → or_else r (cond b (Some y) None) ≡ cond b (Some y) r
  last_step true y r h = ap (λ o. or_else o (Some y)) (h refl)
  last_step false y None h = refl
  last_step false y (Some z) h = refl

  set_in-last : (xs : List SoloSet) (y : DataSet) → set_in xs key serial ≡ None → (k : Key) (v : List ℕ) →
      set_in (xs ++ record { serial = serial; key = key; set = y } ∷ []) k v ≡ cond (same_place k v key serial) (Some y) (set_in xs k v)
  set_in-last xs y h k v =
      set_in-append xs y k v ∙ last_step (same_place k v key serial) y (set_in xs k v) (λ e. moved (same_place-true k v key serial e))
    where
      moved : (k ≡ key) × (v ≡ serial) → set_in xs k v ≡ None
      moved p = (λ i. set_in xs (p.0 i) (p.1 i)) ∙ h

  -- the store with a set where there was none
  pub store-made : (s : SoloStore) (y : DataSet) → set_in s.sets key serial ≡ None →
      store_of (record s { sets = s.sets ++ record { serial = serial; key = key; set = y } ∷ [] }) ≡ with_set (store_of s) key serial (Some y)
  store-made s y h = λ i. record { set = λ k v. set_in-last s.sets y h k v i; catalog = λ name. entry_in s.catalog name }

  -- the store without the set of a key on a volume
  pub store-without_sets : (s : SoloStore) → store_of (record s { sets = without_sets s.sets key serial }) ≡ with_set (store_of s) key serial None
  store-without_sets s = λ i. record { set = λ k v. set_in-without s.sets k v i; catalog = λ name. entry_in s.catalog name }

-- the same for entries
pub apart_names : (n name : List ℕ) (x : SoloEntry) → is_of name x ≡ false → bytes_eq n x.name ≡ true → bytes_eq n name ≡ true → ⊥
apart_names n name x other here at =
    let p : n ≡ name = bytes_eq-true n name at in
    true≢false (sym here ∙ ap (λ m. bytes_eq m x.name) p ∙ other)

nothing_entered : (b : Bool) (n : List ℕ) → entry_in [] n ≡ cond b None (entry_in [] n)
nothing_entered true n = refl
nothing_entered false n = refl

module _ (name : List ℕ) where
  without_entry_step : (x : SoloEntry) (xs : List SoloEntry) (n : List ℕ) (b : Bool) → is_of name x ≡ b →
      entry_in (without_entries xs name) n ≡ cond (bytes_eq n name) None (entry_in xs n) →
      entry_in (cond (not b) (x ∷ without_entries xs name) (without_entries xs name)) n
      ≡ cond (bytes_eq n name) None (cond (bytes_eq n x.name) (Some x.entry) (entry_in xs n))
  without_entry_step x xs n true e ih =
      let p : x.name ≡ name = sym (bytes_eq-true name x.name e) in
      rw p (ih ∙ same_there (bytes_eq n name) (Some x.entry) (entry_in xs n))
  without_entry_step x xs n false e ih =
      ap (cond (bytes_eq n x.name) (Some x.entry)) ih
      ∙ taken_out (bytes_eq n x.name) (bytes_eq n name) (Some x.entry) (entry_in xs n) (apart_names n name x e)

  pub entry_in-without : (xs : List SoloEntry) (n : List ℕ) → entry_in (without_entries xs name) n ≡ cond (bytes_eq n name) None (entry_in xs n)
  entry_in-without [] n = nothing_entered (bytes_eq n name) n
  entry_in-without (x ∷ xs) n = without_entry_step x xs n (is_of name x) refl (entry_in-without xs n)

  entry_in-append : (xs : List SoloEntry) (y : CatEntry) (n : List ℕ) →
      entry_in (xs ++ record { name = name; entry = y } ∷ []) n ≡ or_else (entry_in xs n) (cond (bytes_eq n name) (Some y) None)
  entry_in-append [] y n = refl
  entry_in-append (x ∷ xs) y n =
      ap (cond (bytes_eq n x.name) (Some x.entry)) (entry_in-append xs y n)
      ∙ found_first (bytes_eq n x.name) x.entry (entry_in xs n) (cond (bytes_eq n name) (Some y) None)

  put_entry_step : (b : Bool) (y : CatEntry) (r : Option CatEntry) → or_else (cond b None r) (cond b (Some y) None) ≡ cond b (Some y) r
  put_entry_step true y r = refl
  put_entry_step false y None = refl
  put_entry_step false y (Some z) = refl

  pub entry_in-put : (xs : List SoloEntry) (y : CatEntry) (n : List ℕ) →
      entry_in (without_entries xs name ++ record { name = name; entry = y } ∷ []) n ≡ cond (bytes_eq n name) (Some y) (entry_in xs n)
  entry_in-put xs y n =
      entry_in-append (without_entries xs name) y n
      ∙ ap (λ o. or_else o (cond (bytes_eq n name) (Some y) None)) (entry_in-without xs n)
      ∙ put_entry_step (bytes_eq n name) y (entry_in xs n)

  pub store-without_entries : (s : SoloStore) → store_of (record s { catalog = without_entries s.catalog name }) ≡ with_entry (store_of s) name None
  store-without_entries s = λ i. record { set = λ k v. set_in s.sets k v; catalog = λ n. entry_in-without s.catalog n i }

  pub store-put_entry : (s : SoloStore) (y : CatEntry) →
      store_of (record s { catalog = without_entries s.catalog name ++ record { name = name; entry = y } ∷ [] }) ≡ with_entry (store_of s) name (Some y)
  store-put_entry s y = λ i. record { set = λ k v. set_in s.sets k v; catalog = λ n. entry_in-put s.catalog y n i }
