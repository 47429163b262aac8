-- What an action of a job leaves of the tracks of each volume, and what is free behind it.
use Rattle.std.proofs.Common.{◌≡◌, ◌≤◌, ◌+◌, ◌-◌, ℕ, Bool, true, false, cond, List, [], ◌∷◌, Some, None, arith, refl, sym, ap, ◌∙◌, subst}
use Rattle.std.specs.Prelude.{◌&&◌}
use Rattle.std.specs.List.{list_any}
use Rattle.std.specs.Str.{bytes_eq}
use Rattle.std.proofs.lemmas.Bool.{both_ways, or_parts}
use Rattle.jname_core.specs.declared.key.Key.{Key}
use Rattle.vtoc_core.specs.declared.entry.SetKey.{SetKey}
use Rattle.jcl_plan.specs.declared.plan.JobPlan.{JobPlan}
use Rattle.jcl_meaning.specs.declared.state.Place.{Place}
use Rattle.jcl_meaning.specs.declared.store.DataSet.{DataSet}
use Rattle.jcl_meaning.specs.Agendas.{Action}
use Rattle.jcl_meaning.specs.Names.{same_key}
use Rattle.jcl_meaning.specs.RequestActs.{head_or}
use Rattle.jcl_meaning.specs.States.{Done, Fixed, State}
use Rattle.jcl_meaning.specs.Stores.{Store, with_set}
use Rattle.jcl_meaning.specs.TakeActs.{new_set}
use Rattle.cb_meaning.specs.Writable.{kind_at}
use Rattle.world_meaning.specs.Admissions.{primary_asked}
use Rattle.world_meaning.specs.Lenses.{WorldStore, put_back, seen, seen_set, world_key, written_set}
use Rattle.world_meaning.specs.Tracks.{Conserves, is_touched, kept_on, kept_unless_made, tracks_of, used_by}
use Rattle.world_meaning.specs.Worlds.{Kept, Shared}
use Rattle.case_laws.specs.Cases.{HasTracks}
use Rattle.case_laws.specs.Gains.{Gains, GainsNone, MakesSet, grows, none, one}
use Rattle.case_laws.proofs.Gained.{chained}
use Rattle.case_laws.proofs.Keeping.{made_fits}
use Rattle.case_laws.proofs.Known.{IsKnown}
use Rattle.case_laws.proofs.Sights.{made_gains, put_gains, put_others, touched_by, touched_once}
use Rattle.case_laws.proofs.Sums.{sum_filter}
use Rattle.case_laws.proofs.TouchedKeys.{sum_gains}
use Rattle.plain.specs.Lists.{all_different}
use Rattle.vtoc_core.specs.Entries.{same_key as same_set_key}

-- On no volume are more tracks kept and in sets than before, and of the sets these alone changed.
pub record Spent (old : Shared) (store : WorldStore) (kept : List ℕ → List Kept) : Type 0 where
  pub touched : List SetKey
  pub once : all_different same_set_key touched ≡ true
  pub others : (k : SetKey) (v : List ℕ) → is_touched touched k ≡ false → store.set k v ≡ old.store.set k v
  pub fits : (v : List ℕ) → kept_on kept v + used_by store v touched ≤ kept_on old.kept v + used_by old.store v touched

-- the others are free
abbrev pub free_left : (old : Shared) (store : WorldStore) (kept : List ℕ → List Kept) → List SetKey → List ℕ → ℕ
free_left old store kept touched v = (old.free v + (kept_on old.kept v + used_by old.store v touched)) - (kept_on kept v + used_by store v touched)

all_there : (whole free part : ℕ) → part ≤ whole → ((free + whole) - part) + part ≡ free + whole
all_there whole free part h = omega (arith, h)

pub spent_conserves : (old new : Shared) (s : Spent old new.store new.kept) → new.free ≡ free_left old new.store new.kept s.touched → Conserves old new
spent_conserves old new s e v = record {
  touched = s.touched;
  once = s.once;
  others = λ k out. s.others k v out;
  sum = ap (λ f. f v + (kept_on new.kept v + used_by new.store v s.touched)) e
      ∙ all_there (kept_on old.kept v + used_by old.store v s.touched) (old.free v) (kept_on new.kept v + used_by new.store v s.touched) (s.fits v);
}

no_more : (a b c d : ℕ) → a ≤ c → b ≤ d + 0 → a + b ≤ c + d
no_more a b c d e f = omega (arith, e, f)

as_many : (a left n b c d : ℕ) → a ≤ left → left + n ≤ c → b ≤ d + n → a + b ≤ c + d
as_many a left n b c d e f g = omega (arith, e, f, g)

module _ (old : Shared) (job : ℕ) where
  -- nothing is made
  still : (t : Store) (made : List Place) (kept : List ℕ → List Kept) → GainsNone (seen job old.store) t →
      ((v : List ℕ) → kept_on kept v ≤ kept_on (kept_unless_made old.kept job made) v) → Spent old (put_back job old.store t) kept
  still t made kept g few = record {
    touched = touched_by job g.touched;
    once = touched_once job g.touched;
    others = λ k v out. put_others job old.store t g.touched g.others k v out;
    fits = λ v. no_more (kept_on kept v) (used_by (put_back job old.store t) v (touched_by job g.touched)) (kept_on old.kept v)
        (used_by old.store v (touched_by job g.touched)) (along (kept_on kept v) (kept_on (kept_unless_made old.kept job made) v) (kept_on old.kept v)
        (few v) (sum_filter _ _ (old.kept v)))
        (sum_gains (λ k. tracks_of (written_set job old.store t k v)) (λ k. tracks_of (old.store.set k v)) None 0 (touched_by job g.touched)
        (touched_once job g.touched)
        (put_gains job old.store t None 0 v (λ j k is. as_before (tracks_of (t.set j v)) (tracks_of (seen_set job old.store j v)) (g.less j v))));
  }
    where
      along : (a b c : ℕ) → a ≤ b → b ≤ c → a ≤ c
      along a b c e f = omega (arith, e, f)

      as_before : (a b : ℕ) → a ≤ b → a ≤ b + 0
      as_before a b h = omega (arith, h)

  -- a set is made where another state stood
  module _ (b : Store) (key : Key) (serial : List ℕ) (new : DataSet) (g : GainsNone (seen job old.store) b) where
    abbrev t : Store
    t = with_set b key serial (Some new)

    elsewhere : (j : Key) (v : List ℕ) → list_any (same_key j) (key ∷ g.touched) ≡ false → t.set j v ≡ seen_set job old.store j v
    elsewhere j v out =
        let p : (same_key j key ≡ false) × (list_any (same_key j) g.touched ≡ false) = or_parts (same_key j key) (list_any (same_key j) g.touched) out in
        ap (λ (x : Bool). cond (x && bytes_eq v serial) (Some new) (b.set j v)) p.0 ∙ g.others j v p.1

    makes : (plan : JobPlan) (p : Place) (kept : List ℕ → List Kept) → p.serial ≡ serial → primary_asked (kind_at plan.steps p.step p.dd) ≡ new.tracks →
        HasTracks (old.kept p.serial) plan job p → ((v : List ℕ) → kept_on kept v ≤ kept_on (kept_unless_made old.kept job (p ∷ [])) v) →
        Spent old (put_back job old.store t) kept
    makes plan p kept there asked has few = record {
      touched = touched_by job (key ∷ g.touched);
      once = touched_once job (key ∷ g.touched);
      others = λ k v out. put_others job old.store t (key ∷ g.touched) elsewhere k v out;
      fits = λ v. as_many (kept_on kept v) (kept_on (kept_unless_made old.kept job (p ∷ [])) v) (cond (bytes_eq v serial) new.tracks 0)
          (used_by (put_back job old.store t) v (touched_by job (key ∷ g.touched))) (kept_on old.kept v)
          (used_by old.store v (touched_by job (key ∷ g.touched))) (few v)
          (subst (λ (x : List ℕ). kept_on (kept_unless_made old.kept job (p ∷ [])) v + cond (bytes_eq v x) new.tracks 0 ≤ kept_on old.kept v) there
          (subst (λ (n : ℕ). kept_on (kept_unless_made old.kept job (p ∷ [])) v + cond (bytes_eq v p.serial) n 0 ≤ kept_on old.kept v) asked
          (made_fits plan job p v old.kept has)))
          (sum_gains (λ k. tracks_of (written_set job old.store t k v)) (λ k. tracks_of (old.store.set k v)) (world_key job key)
          (cond (bytes_eq v serial) new.tracks 0)
          (touched_by job (key ∷ g.touched)) (touched_once job (key ∷ g.touched))
          (put_gains job old.store t (world_key job key) (cond (bytes_eq v serial) new.tracks 0) v
          (made_gains job b key serial new (λ j x. tracks_of (seen_set job old.store j x)) g.less v)));
    }

  module _ (plan : JobPlan) (fixed : Fixed) (a : Action) (s : State) (d : Done) (g : GainsNone (seen job old.store) s.store)
      (refused : head_or true s.answers.grants ≡ false) (known : IsKnown plan.steps a)
      (has : (p : Place) → (m : MakesSet fixed a s d) → d.made ≡ p ∷ [] → HasTracks (old.kept p.serial) plan job p) (kept : List ℕ → List Kept)
      (few : (v : List ℕ) → kept_on kept v ≤ kept_on (kept_unless_made old.kept job d.made) v) where
    pub spent : Gains fixed a s d → Spent old (put_back job old.store d.state.store) kept
    spent (none h made) = still d.state.store d.made kept (chained (seen job old.store) s.store d.state.store g h) few
    spent (grows granted made) = absurd (both_ways (head_or true s.answers.grants) refused granted)
    spent (one m) =
        let p : Place = record { step = m.step; dd = m.number; serial = m.serial } in
        subst (λ (t : Store). Spent old (put_back job old.store t) kept) (sym m.store)
        (makes s.store m.key m.serial (new_set fixed m.plan m.key) g plan p kept refl
        (ap primary_asked (subst (IsKnown plan.steps) m.takes known ∙ ap Some m.for_set)) (has p m m.made)
        (subst (λ (made : List Place). (v : List ℕ) → kept_on kept v ≤ kept_on (kept_unless_made old.kept job made) v) m.made few))
