-- Where the set of a key on a volume stands in a list.
use Rattle.std.proofs.Common.{◌≡◌, ◌<◌, ◌≤◌, ℕ, suc, ◌+◌, Bool, true, false, not, nat_lt, cond, IfSome, IfNone, List, [], ◌∷◌, Some, None, length, slice_set, refl, sym, subst, ap, ◌∙◌, arith}
use Rattle.std.specs.List.{position, position_or_len}
use Rattle.std.proofs.lemmas.Bool.{ltb-true, ltb-false}
use Rattle.std.specs.Str.{bytes_eq}
use Rattle.group_core.specs.declared.entry.CatEntry.{CatEntry}
use Rattle.jname_core.specs.declared.key.Key.{Key}
use Rattle.jcl_meaning.specs.declared.store.DataSet.{DataSet}
use Rattle.jcl_meaning.specs.declared.store.SoloEntry.{SoloEntry}
use Rattle.jcl_meaning.specs.declared.store.SoloSet.{SoloSet}
use Rattle.jcl_meaning.specs.declared.store.SoloStore.{SoloStore}
use Rattle.jcl_meaning.specs.Lists.{is_at, is_of}
use Rattle.jcl_meaning.specs.Stores.{entry_in, set_in, store_of, with_entry, with_set}
use Rattle.store_core.specs.Places.{IsFirstAt, IsFirstOf}
use Rattle.store_core.proofs.Keys.{bytes_eq-true, same_place, same_place-moved}
use Rattle.store_core.proofs.StoreLists.{apart, apart_names}

twice : {Y : Type 0} (b : Bool) (x y r : Y) → cond b x r ≡ cond b x (cond b y r)
twice true x y r = refl
twice false x y r = refl

swapped : {Y : Type 0} (a b : Bool) (x y r : Y) → (a ≡ true → b ≡ true → ⊥) → cond a x (cond b y r) ≡ cond b y (cond a x r)
swapped true true x y r h = absurd (h refl refl)
swapped true false x y r h = refl
swapped false b x y r h = refl

module _ (key : Key) (serial : List ℕ) where
  here : (x : SoloSet) (xs : List SoloSet) → is_at key serial x ≡ true → IsFirstAt (x ∷ xs) key serial 0
  here x xs e = record {
    within = omega (arith);
    its_set = x;
    stands = refl;
    found = ap (λ b. cond b (Some x.set) (set_in xs key serial)) e;
    changed = λ other k v.
        rw (same_place-moved k v key x.key serial x.serial e) (twice (same_place k v key serial) (Some other) (Some x.set) (set_in xs k v));
  }

  behind : (x : SoloSet) (xs : List SoloSet) (n : ℕ) → is_at key serial x ≡ false → IsFirstAt xs key serial n → IsFirstAt (x ∷ xs) key serial (suc n)
  behind x xs n e f = record {
    within = omega (arith, f.within);
    its_set = f.its_set;
    stands = f.stands;
    found = ap (λ b. cond b (Some x.set) (set_in xs key serial)) e ∙ f.found;
    changed = λ other k v.
        ap (cond (same_place k v x.key x.serial) (Some x.set)) (f.changed other k v)
        ∙ swapped (same_place k v x.key x.serial) (same_place k v key serial) (Some x.set) (Some other) (set_in xs k v) (apart k v key serial x e);
  }

  step : (x : SoloSet) (xs : List SoloSet) (n : ℕ) (b : Bool) → is_at key serial x ≡ b → (n < length xs → IsFirstAt xs key serial n) →
      cond (not b) (1 + n) 0 < suc (length xs) → IsFirstAt (x ∷ xs) key serial (cond (not b) (1 + n) 0)
  step x xs n true e ih h = here x xs e
  step x xs n false e ih h = subst (IsFirstAt (x ∷ xs) key serial) (next n) (behind x xs n e (ih (omega (arith, h))))
    where
      next : (n : ℕ) → suc n ≡ 1 + n
      next n = omega (arith)

  pub first_at : (xs : List SoloSet) → position_or_len (is_at key serial) xs < length xs → IsFirstAt xs key serial (position_or_len (is_at key serial) xs)
  first_at [] h = absurd (omega (arith, h))
  first_at (x ∷ xs) h = step x xs (position_or_len (is_at key serial) xs) (is_at key serial x) refl (first_at xs) h

  none_step : (x : SoloSet) (xs : List SoloSet) (b : Bool) → is_at key serial x ≡ b →
      (length xs ≤ position_or_len (is_at key serial) xs → set_in xs key serial ≡ None) →
      suc (length xs) ≤ cond (not b) (1 + position_or_len (is_at key serial) xs) 0 → set_in (x ∷ xs) key serial ≡ None
  none_step x xs true e ih h = absurd (omega (arith, h))
  none_step x xs false e ih h = ap (λ b. cond b (Some x.set) (set_in xs key serial)) e ∙ ih (omega (arith, h))

  none_at : (xs : List SoloSet) → length xs ≤ position_or_len (is_at key serial) xs → set_in xs key serial ≡ None
  none_at [] h = refl
  none_at (x ∷ xs) h = none_step x xs (is_at key serial x) refl (none_at xs) h

  there_by : (xs : List SoloSet) (n : ℕ) (b : Bool) → (b ≡ true → IsFirstAt xs key serial n) → IfSome (cond b (Some n) None) (IsFirstAt xs key serial)
  there_by xs n true f = f refl
  there_by xs n false f = tt

  pub there : (xs : List SoloSet) → IfSome (position (is_at key serial) xs) (IsFirstAt xs key serial)
  there xs = there_by xs (position_or_len (is_at key serial) xs) (nat_lt (position_or_len (is_at key serial) xs) (length xs))
      (λ e. first_at xs (ltb-true _ _ e))

  missing_by : (xs : List SoloSet) (n : ℕ) (b : Bool) → (b ≡ false → set_in xs key serial ≡ None) → IfNone (cond b (Some n) None) (set_in xs key serial ≡ None)
  missing_by xs n true f = tt
  missing_by xs n false f = f refl

  pub missing : (xs : List SoloSet) → IfNone (position (is_at key serial) xs) (set_in xs key serial ≡ None)
  missing xs = missing_by xs (position_or_len (is_at key serial) xs) (nat_lt (position_or_len (is_at key serial) xs) (length xs))
      (λ e. none_at xs (ltb-false _ _ e))

-- a set changed in its place
pub changed_in_place : (s : SoloStore) (key : Key) (serial : List ℕ) (place : ℕ) (f : IsFirstAt s.sets key serial place) (other : DataSet) →
    store_of (record s { sets = slice_set s.sets place (record f.its_set { set = other }) }) ≡ with_set (store_of s) key serial (Some other)
changed_in_place s key serial place f other = λ i. record { set = λ k v. f.changed other k v i; catalog = λ name. entry_in s.catalog name }

same_name_moved : (n name other : List ℕ) → bytes_eq name other ≡ true → bytes_eq n other ≡ bytes_eq n name
same_name_moved n name other e = ap (bytes_eq n) (sym (bytes_eq-true name other e))

-- the same for entries
module _ (name : List ℕ) where
  entry_here : (x : SoloEntry) (xs : List SoloEntry) → is_of name x ≡ true → IsFirstOf (x ∷ xs) name 0
  entry_here x xs e = record {
    within = omega (arith);
    its_entry = x;
    stands = refl;
    found = ap (λ b. cond b (Some x.entry) (entry_in xs name)) e;
    changed = λ other n. rw (same_name_moved n name x.name e) (twice (bytes_eq n name) (Some other) (Some x.entry) (entry_in xs n));
  }

  entry_behind : (x : SoloEntry) (xs : List SoloEntry) (i : ℕ) → is_of name x ≡ false → IsFirstOf xs name i → IsFirstOf (x ∷ xs) name (suc i)
  entry_behind x xs i e f = record {
    within = omega (arith, f.within);
    its_entry = f.its_entry;
    stands = f.stands;
    found = ap (λ b. cond b (Some x.entry) (entry_in xs name)) e ∙ f.found;
    changed = λ other n.
        ap (cond (bytes_eq n x.name) (Some x.entry)) (f.changed other n)
        ∙ swapped (bytes_eq n x.name) (bytes_eq n name) (Some x.entry) (Some other) (entry_in xs n) (apart_names n name x e);
  }

  entry_step : (x : SoloEntry) (xs : List SoloEntry) (i : ℕ) (b : Bool) → is_of name x ≡ b → (i < length xs → IsFirstOf xs name i) →
      cond (not b) (1 + i) 0 < suc (length xs) → IsFirstOf (x ∷ xs) name (cond (not b) (1 + i) 0)
  entry_step x xs i true e ih h = entry_here x xs e
  entry_step x xs i false e ih h = subst (IsFirstOf (x ∷ xs) name) (next i) (entry_behind x xs i e (ih (omega (arith, h))))
    where
      next : (i : ℕ) → suc i ≡ 1 + i
      next i = omega (arith)

  first_entry : (xs : List SoloEntry) → position_or_len (is_of name) xs < length xs → IsFirstOf xs name (position_or_len (is_of name) xs)
  first_entry [] h = absurd (omega (arith, h))
  first_entry (x ∷ xs) h = entry_step x xs (position_or_len (is_of name) xs) (is_of name x) refl (first_entry xs) h

  no_entry_step : (x : SoloEntry) (xs : List SoloEntry) (b : Bool) → is_of name x ≡ b →
      (length xs ≤ position_or_len (is_of name) xs → entry_in xs name ≡ None) →
      suc (length xs) ≤ cond (not b) (1 + position_or_len (is_of name) xs) 0 → entry_in (x ∷ xs) name ≡ None
  no_entry_step x xs true e ih h = absurd (omega (arith, h))
  no_entry_step x xs false e ih h = ap (λ b. cond b (Some x.entry) (entry_in xs name)) e ∙ ih (omega (arith, h))

  no_entry : (xs : List SoloEntry) → length xs ≤ position_or_len (is_of name) xs → entry_in xs name ≡ None
  no_entry [] h = refl
  no_entry (x ∷ xs) h = no_entry_step x xs (is_of name x) refl (no_entry xs) h

  entry_there_by : (xs : List SoloEntry) (i : ℕ) (b : Bool) → (b ≡ true → IsFirstOf xs name i) → IfSome (cond b (Some i) None) (IsFirstOf xs name)
  entry_there_by xs i true f = f refl
  entry_there_by xs i false f = tt

  pub entry_there : (xs : List SoloEntry) → IfSome (position (is_of name) xs) (IsFirstOf xs name)
  entry_there xs = entry_there_by xs (position_or_len (is_of name) xs) (nat_lt (position_or_len (is_of name) xs) (length xs))
      (λ e. first_entry xs (ltb-true _ _ e))

  entry_missing_by : (xs : List SoloEntry) (i : ℕ) (b : Bool) → (b ≡ false → entry_in xs name ≡ None) → IfNone (cond b (Some i) None) (entry_in xs name ≡ None)
  entry_missing_by xs i true f = tt
  entry_missing_by xs i false f = f refl

  pub entry_missing : (xs : List SoloEntry) → IfNone (position (is_of name) xs) (entry_in xs name ≡ None)
  entry_missing xs = entry_missing_by xs (position_or_len (is_of name) xs) (nat_lt (position_or_len (is_of name) xs) (length xs))
      (λ e. no_entry xs (ltb-false _ _ e))

pub entry_changed_in_place : (s : SoloStore) (name : List ℕ) (place : ℕ) (f : IsFirstOf s.catalog name place) (other : CatEntry) →
    store_of (record s { catalog = slice_set s.catalog place (record f.its_entry { entry = other }) }) ≡ with_entry (store_of s) name (Some other)
entry_changed_in_place s name place f other = λ i. record { set = λ k v. set_in s.sets k v; catalog = λ n. f.changed other n i }
