-- What a job changes of all jobs' sets, by what it changed of those that it sees.
use Rattle.std.proofs.Common.{◌≡◌, ◌≤◌, ◌+◌, ◌==◌, ◌⊎◌, inl, inr, ℕ, Bool, true, false, cond, List, [], ◌∷◌, Option, Some, None, arith, eqb-true, refl, sym, ap, ◌∙◌, subst}
use Rattle.std.specs.Prelude.{◌&&◌}
use Rattle.std.specs.List.{list_any}
use Rattle.std.specs.Str.{bytes_eq}
use Rattle.std.proofs.lemmas.Bool.{both_ways, false_from_ne_true, or_cases, or_left, or_right}
use Rattle.jname_core.specs.declared.key.Key.{Key}
use Rattle.jname_core.specs.declared.key.Key.TheVariants as its
use Rattle.vtoc_core.specs.declared.entry.SetKey.{SetKey}
use Rattle.vtoc_core.specs.declared.entry.SetKey.TheVariants as all
use Rattle.vtoc_core.specs.Entries.{same_key as same_set_key}
use Rattle.jcl_meaning.specs.declared.store.DataSet.{DataSet}
use Rattle.jcl_meaning.specs.Names.{same_key}
use Rattle.jcl_meaning.specs.Stores.{Store, with_set}
use Rattle.world_meaning.specs.Lenses.{WorldStore, seen_set, world_key, written_set}
use Rattle.world_meaning.specs.Tracks.{is_touched, tracks_of}
use Rattle.case_laws.proofs.Gained.{one_key}
use Rattle.case_laws.proofs.TouchedKeys.{distinct, distinct_all, distinct_once, gain, itself}
use Rattle.plain.specs.Lists.{all_different}

-- Under a key of all jobs stands what another job made, or what the job sees under one of its keys.
data Sight (job : ℕ) (w : WorldStore) (t : Store) (k : SetKey) : Type 0 where
  others : ((v : List ℕ) → written_set job w t k v ≡ w.set k v) → Sight job w t k
  own : (j : Key) → world_key job j ≡ Some k → ((v : List ℕ) → written_set job w t k v ≡ t.set j v) →
      ((v : List ℕ) → w.set k v ≡ seen_set job w j v) → Sight job w t k

module _ (job : ℕ) (w : WorldStore) (t : Store) where
  sight : (k : SetKey) → Sight job w t k
  sight (all.Named name) = own (its.Named name) refl (λ v. refl) (λ v. refl)
  sight (all.Temporary owner name) = by_owner (owner == job) refl
    where
      by_owner : (b : Bool) → (owner == job) ≡ b → Sight job w t (all.Temporary owner name)
      by_owner true e =
          own (its.Temporary name) (ap (λ x. Some (all.Temporary x name)) (sym (eqb-true owner job e)))
          (λ v. ap (λ (b : Bool). cond b (t.set (its.Temporary name) v) (w.set (all.Temporary owner name) v)) e)
          (λ v. ap (λ x. w.set (all.Temporary x name) v) (eqb-true owner job e))
      by_owner false e = others (λ v. ap (λ (b : Bool). cond b (t.set (its.Temporary name) v) (w.set (all.Temporary owner name) v)) e)
  sight (all.Unnamed owner n d) = by_owner (owner == job) refl
    where
      by_owner : (b : Bool) → (owner == job) ≡ b → Sight job w t (all.Unnamed owner n d)
      by_owner true e =
          own (its.Unnamed n d) (ap (λ x. Some (all.Unnamed x n d)) (sym (eqb-true owner job e)))
          (λ v. ap (λ (b : Bool). cond b (t.set (its.Unnamed n d) v) (w.set (all.Unnamed owner n d) v)) e)
          (λ v. ap (λ x. w.set (all.Unnamed x n d) v) (eqb-true owner job e))
      by_owner false e = others (λ v. ap (λ (b : Bool). cond b (t.set (its.Unnamed n d) v) (w.set (all.Unnamed owner n d) v)) e)

-- the keys of all jobs under which a job's keys stand
abbrev with_key : Option SetKey → List SetKey → List SetKey
with_key None keys = keys
with_key (Some k) keys = k ∷ keys

abbrev all_keys : ℕ → List Key → List SetKey
all_keys job [] = []
all_keys job (j ∷ js) = with_key (world_key job j) (all_keys job js)

still_touched : (o : Option SetKey) (keys : List SetKey) (k : SetKey) → is_touched keys k ≡ true → is_touched (with_key o keys) k ≡ true
still_touched None keys k h = h
still_touched (Some x) keys k h = or_right (same_set_key k x) (is_touched keys k) h

touched_too : (job : ℕ) (js : List Key) (j : Key) (k : SetKey) → world_key job j ≡ Some k → list_any (same_key j) js ≡ true →
    is_touched (all_keys job js) k ≡ true
touched_too job [] j k is e = absurd cc
touched_too job (x ∷ js) j k is e = by_place (or_cases (same_key j x) (list_any (same_key j) js) e) (touched_too job js j k is)
  where
    by_place : (same_key j x ≡ true) ⊎ (list_any (same_key j) js ≡ true) → (list_any (same_key j) js ≡ true → is_touched (all_keys job js) k ≡ true) →
        is_touched (with_key (world_key job x) (all_keys job js)) k ≡ true
    by_place (inl here) more =
        subst (λ (o : Option SetKey). is_touched (with_key o (all_keys job js)) k ≡ true) (sym is ∙ ap (world_key job) (one_key j x here))
        (or_left (same_set_key k k) (is_touched (all_keys job js) k) (itself k))
    by_place (inr there) more = still_touched (world_key job x) (all_keys job js) k (more there)

-- each once
abbrev pub touched_by : ℕ → List Key → List SetKey
touched_by job js = distinct (all_keys job js)

pub touched_once : (job : ℕ) (js : List Key) → all_different same_set_key (touched_by job js) ≡ true
touched_once job js = distinct_once (all_keys job js)

untouched : (job : ℕ) (js : List Key) (j : Key) (k : SetKey) → world_key job j ≡ Some k → is_touched (touched_by job js) k ≡ false →
    list_any (same_key j) js ≡ false
untouched job js j k is out =
    false_from_ne_true (list_any (same_key j) js)
    (λ there. both_ways (is_touched (all_keys job js) k) (distinct_all (all_keys job js) k out) (touched_too job js j k is there))

same_tracks : (x y : Option DataSet) (n : ℕ) → x ≡ y → tracks_of x ≤ tracks_of y + n
same_tracks x y n e = let same : tracks_of x ≡ tracks_of y = ap tracks_of e in omega (arith, same)

less_tracks : (x y a b : Option DataSet) (n : ℕ) → x ≡ a → y ≡ b → tracks_of a ≤ tracks_of b + n → tracks_of x ≤ tracks_of y + n
less_tracks x y a b n e f h = let p : tracks_of x ≡ tracks_of a = ap tracks_of e in let q : tracks_of y ≡ tracks_of b = ap tracks_of f in omega (arith, p, q, h)

module _ (job : ℕ) (w : WorldStore) (t : Store) where
  -- what stood outside these keys stands still
  pub put_others : (js : List Key) → ((j : Key) (v : List ℕ) → list_any (same_key j) js ≡ false → t.set j v ≡ seen_set job w j v) →
      (k : SetKey) (v : List ℕ) → is_touched (touched_by job js) k ≡ false → written_set job w t k v ≡ w.set k v
  put_others js still k v out = by_sight (sight job w t k)
    where
      by_sight : Sight job w t k → written_set job w t k v ≡ w.set k v
      by_sight (others e) = e v
      by_sight (own j is e f) = e v ∙ (still j v (untouched job js j k is out) ∙ sym (f v))

  -- no set has more tracks, but for one that has so many more
  pub put_gains : (here : Option SetKey) (n : ℕ) (v : List ℕ) →
      ((j : Key) (k : SetKey) → world_key job j ≡ Some k → tracks_of (t.set j v) ≤ tracks_of (seen_set job w j v) + gain here n k) →
      (k : SetKey) → tracks_of (written_set job w t k v) ≤ tracks_of (w.set k v) + gain here n k
  put_gains here n v each k = by_sight (sight job w t k)
    where
      by_sight : Sight job w t k → tracks_of (written_set job w t k v) ≤ tracks_of (w.set k v) + gain here n k
      by_sight (others e) = same_tracks (written_set job w t k v) (w.set k v) (gain here n k) (e v)
      by_sight (own j is e f) =
          less_tracks (written_set job w t k v) (w.set k v) (t.set j v) (seen_set job w j v) (gain here n k) (e v) (f v) (each j k is)

-- a set that a job makes where it sees others
module _ (job : ℕ) (b : Store) (key : Key) (serial : List ℕ) (new : DataSet) (few : Key → List ℕ → ℕ)
    (less : (j : Key) (v : List ℕ) → tracks_of (b.set j v) ≤ few j v) where
  -- so many more on its volume
  abbrev pub made_on : List ℕ → ℕ
  made_on v = cond (bytes_eq v serial) new.tracks 0

  pub made_gains : (v : List ℕ) (j : Key) (k : SetKey) → world_key job j ≡ Some k →
      tracks_of ((with_set b key serial (Some new)).set j v) ≤ few j v + gain (world_key job key) (made_on v) k
  made_gains v j k is = by_place (same_key j key) (bytes_eq v serial) refl refl
    where
      more : (a n m : ℕ) → a ≤ n → a ≤ n + m
      more a n m h = omega (arith, h)

      gained : (n m : ℕ) → gain (world_key job key) new.tracks k ≡ new.tracks → new.tracks ≤ n + gain (world_key job key) new.tracks k
      gained n m e = omega (arith, e)

      by_place : (x y : Bool) → same_key j key ≡ x → bytes_eq v serial ≡ y →
          tracks_of (cond (x && y) (Some new) (b.set j v)) ≤ few j v + gain (world_key job key) (cond y new.tracks 0) k
      by_place true true e f =
          gained (few j v) 0 (ap (λ (o : Option SetKey). gain o new.tracks k) (sym (ap (world_key job) (one_key j key e)) ∙ is)
          ∙ ap (λ (x : Bool). cond x new.tracks 0) (itself k))
      by_place true false e f = more (tracks_of (b.set j v)) (few j v) (gain (world_key job key) 0 k) (less j v)
      by_place false y e f = more (tracks_of (b.set j v)) (few j v) (gain (world_key job key) (cond y new.tracks 0) k) (less j v)
