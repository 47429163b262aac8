-- What is done to a store and gives no set more tracks.
use Rattle.std.proofs.Common.{◌≡◌, ◌≤◌, ◌==◌, ◌++◌, ℕ, Bool, true, false, cond, List, [], ◌∷◌, Option, Some, None, Result, Ok, Err, arith, eqb-true, length, refl, sym, ap, ◌∙◌, subst}
use Rattle.std.specs.Prelude.{◌&&◌, ◌||◌}
use Rattle.std.specs.List.{list_any}
use Rattle.std.specs.Str.{bytes_eq}
use Rattle.std.proofs.lemmas.Bool.{and_parts}
use Rattle.std.proofs.Math.Nat.{min-le_left}
use Rattle.jname_core.specs.declared.key.Key.{Key}
use Rattle.jname_core.specs.declared.key.Key.TheVariants.{Named, Relative, Temporary, Unnamed}
use Rattle.jname_core.specs.declared.key.Sign.{Sign}
use Rattle.jname_core.specs.declared.key.Sign.TheVariants.{Plus, Minus}
use Rattle.jname_core.specs.Generations.{base_of, generation_name}
use Rattle.group_core.specs.declared.entry.CatEntry.TheVariants.{Group}
use Rattle.group_core.specs.declared.group.GroupFault.{GroupFault}
use Rattle.group_core.specs.declared.group.Rolled.{Rolled}
use Rattle.group_core.specs.declared.group.Rolled.TheVariants.{Entered, Removed, Lowest, Same}
use Rattle.group_core.specs.Entries.{Member}
use Rattle.group_core.specs.Groups.{GroupState, entered, with_entered}
use Rattle.jcl_plan.specs.Tracks.{tracks_for}
use Rattle.jcl_meaning.specs.declared.state.Change.{Change}
use Rattle.jcl_meaning.specs.declared.state.Change.TheVariants as change
use Rattle.jcl_meaning.specs.declared.state.DdState.{DdState}
use Rattle.jcl_meaning.specs.declared.state.TakenSet.{TakenSet}
use Rattle.jcl_meaning.specs.declared.store.DataSet.{DataSet}
use Rattle.jcl_meaning.specs.Dispositions.{changed, is_deleted_back}
use Rattle.jcl_meaning.specs.EndActs.{tracks_released}
use Rattle.jcl_meaning.specs.Names.{same_key, same_sign}
use Rattle.jcl_meaning.specs.Stores.{Store, after_rolling, cut, cut_at, generation_entered, generation_entered_by, is_unexpired, member_of, name_entered, rolled_off, scratched_unless, uncatalogued, uncatalogued_by, with_entry, with_set, with_set_there}
use Rattle.jcl_meaning.specs.TakeActs.{all_given_back, set_given_back}
use Rattle.part_laws.proofs.SameWrites.{same_bytes}
use Rattle.world_meaning.specs.Tracks.{tracks_of}
use Rattle.case_laws.specs.Gains.{GainsNone}

-- keys by their test
signs : (a b : Sign) → same_sign a b ≡ true → a ≡ b
signs Plus Plus h = refl
signs Minus Minus h = refl
signs Plus Minus h = absurd cc
signs Minus Plus h = absurd cc

pub one_key : (a b : Key) → same_key a b ≡ true → a ≡ b
one_key (Named a) (Named b) h = ap Named (same_bytes a b h)
one_key (Relative a s n) (Relative b t m) h =
    let p : (bytes_eq a b ≡ true) × ((same_sign s t && n == m) ≡ true) = and_parts (bytes_eq a b) (same_sign s t && n == m) h in
    let q : (same_sign s t ≡ true) × ((n == m) ≡ true) = and_parts (same_sign s t) (n == m) p.1 in
    λ i. Relative (same_bytes a b p.0 i) (signs s t q.0 i) (eqb-true n m q.1 i)
one_key (Temporary a) (Temporary b) h = ap Temporary (same_bytes a b h)
one_key (Unnamed s d) (Unnamed t e) h =
    let p : ((s == t) ≡ true) × ((d == e) ≡ true) = and_parts (s == t) (d == e) h in
    λ i. Unnamed (eqb-true s t p.0 i) (eqb-true d e p.1 i)
one_key (Named a) (Relative b t m) h = absurd cc
one_key (Named a) (Temporary b) h = absurd cc
one_key (Named a) (Unnamed t e) h = absurd cc
one_key (Relative a s n) (Named b) h = absurd cc
one_key (Relative a s n) (Temporary b) h = absurd cc
one_key (Relative a s n) (Unnamed t e) h = absurd cc
one_key (Temporary a) (Named b) h = absurd cc
one_key (Temporary a) (Relative b t m) h = absurd cc
one_key (Temporary a) (Unnamed t e) h = absurd cc
one_key (Unnamed s d) (Named b) h = absurd cc
one_key (Unnamed s d) (Relative b t m) h = absurd cc
one_key (Unnamed s d) (Temporary b) h = absurd cc

-- the same sets
pub same_sets : (s t : Store) → t.set ≡ s.set → GainsNone s t
same_sets s t e = record {
  touched = [];
  others = λ k v out i. e i k v;
  less = λ k v. by_same (t.set k v) (s.set k v) (λ i. e i k v);
}
  where
    by_same : (x y : Option DataSet) → x ≡ y → tracks_of x ≤ tracks_of y
    by_same x y e = let same : tracks_of x ≡ tracks_of y = ap tracks_of e in omega (arith, same)

pub unchanged : (s : Store) → GainsNone s s
unchanged s = same_sets s s refl

any_parts : {X : Type 0} (p : X → Bool) (xs ys : List X) → list_any p (xs ++ ys) ≡ false → (list_any p xs ≡ false) × (list_any p ys ≡ false)
any_parts p [] ys e = (refl, e)
any_parts p (x ∷ xs) ys e = by_first (p x) (any_parts p xs ys) e
  where
    by_first : (b : Bool) → (list_any p (xs ++ ys) ≡ false → (list_any p xs ≡ false) × (list_any p ys ≡ false)) →
        (b || list_any p (xs ++ ys)) ≡ false → ((b || list_any p xs) ≡ false) × (list_any p ys ≡ false)
    by_first true rest e = absurd cc
    by_first false rest e = rest e

pub chained : (s t u : Store) → GainsNone s t → GainsNone t u → GainsNone s u
chained s t u g h = record {
  touched = g.touched ++ h.touched;
  others = λ k v out.
      let both : (list_any (same_key k) g.touched ≡ false) × (list_any (same_key k) h.touched ≡ false) = any_parts (same_key k) g.touched h.touched out in
      h.others k v both.1 ∙ g.others k v both.0;
  less = λ k v. along (tracks_of (u.set k v)) (tracks_of (t.set k v)) (tracks_of (s.set k v)) (h.less k v) (g.less k v);
}
  where
    along : (a b c : ℕ) → a ≤ b → b ≤ c → a ≤ c
    along a b c e f = omega (arith, e, f)

-- another set at a place, with no more tracks
module _ (s : Store) (key : Key) (serial : List ℕ) (there : Option DataSet) (few : tracks_of there ≤ tracks_of (s.set key serial)) where
  elsewhere : (k : Key) (v : List ℕ) (b : Bool) → (b || false) ≡ false → cond (b && bytes_eq v serial) there (s.set k v) ≡ s.set k v
  elsewhere k v true e = absurd cc
  elsewhere k v false e = refl

  by_place : (k : Key) (v : List ℕ) (a b : Bool) → same_key k key ≡ a → bytes_eq v serial ≡ b →
      tracks_of (cond (a && b) there (s.set k v)) ≤ tracks_of (s.set k v)
  by_place k v true true e f =
      subst (λ (x : Key). tracks_of there ≤ tracks_of (s.set x v)) (sym (one_key k key e))
      (subst (λ (x : List ℕ). tracks_of there ≤ tracks_of (s.set key x)) (sym (same_bytes v serial f)) few)
  by_place k v true false e f = omega arith
  by_place k v false b e f = omega arith

  pub replaced : GainsNone s (with_set s key serial there)
  replaced = record {
    touched = key ∷ [];
    others = λ k v out. elsewhere k v (same_key k key) out;
    less = λ k v. by_place k v (same_key k key) (bytes_eq v serial) refl refl;
  }

pub removed : (s : Store) (key : Key) (serial : List ℕ) → GainsNone s (with_set s key serial None)
removed s key serial = replaced s key serial None (omega arith)

-- where a set is there, another with no more tracks
pub rewritten : (s : Store) (key : Key) (serial : List ℕ) (o : Option DataSet) (set : DataSet) → s.set key serial ≡ o → set.tracks ≤ tracks_of o →
    GainsNone s (with_set_there o set s key serial)
rewritten s key serial None set e few = unchanged s
rewritten s key serial (Some there) set e few =
    replaced s key serial (Some set) (subst (λ (x : Option DataSet). set.tracks ≤ tracks_of x) (sym e) few)

cut_down : (s : Store) (key : Key) (serial : List ℕ) (o : Option DataSet) → s.set key serial ≡ o → GainsNone s (cut_at o s key serial)
cut_down s key serial None e = unchanged s
cut_down s key serial (Some set) e =
    replaced s key serial (Some (cut set))
    (subst (λ (x : Option DataSet). (cut set).tracks ≤ tracks_of x) (sym e) (min-le_left set.tracks (tracks_for (length set.records))))

pub cut_if : (b : Bool) (s : Store) (key : Key) (serial : List ℕ) → GainsNone s (tracks_released b key serial s)
cut_if false s key serial = unchanged s
cut_if true s key serial = cut_down s key serial (s.set key serial) refl

-- what a disposition changes
uncatalogued_by_set : (m : Option Member) (s : Store) (name : List ℕ) → (uncatalogued_by m s name).set ≡ s.set
uncatalogued_by_set (Some m) s name = refl
uncatalogued_by_set None s name = refl

uncatalogued_set : (s : Store) (key : Key) → (uncatalogued s key).set ≡ s.set
uncatalogued_set s (Named name) = uncatalogued_by_set (member_of s name) s name
uncatalogued_set s (Relative base sign amount) = refl
uncatalogued_set s (Temporary name) = refl
uncatalogued_set s (Unnamed step dd) = refl

name_set : (s : Store) (key : Key) (serial : List ℕ) → (name_entered s key serial).set ≡ s.set
name_set s (Named name) serial = refl
name_set s (Relative base sign amount) serial = refl
name_set s (Temporary name) serial = refl
name_set s (Unnamed step dd) serial = refl

scratches : (b : Bool) (s : Store) (key : Key) (serial : List ℕ) → GainsNone s (scratched_unless b s key serial)
scratches true s key serial = unchanged s
scratches false s key serial = removed s key serial

rolls : (scratch : Bool) (date : ℕ) (s : Store) (key : Key) (serial : List ℕ) → GainsNone s (rolled_off scratch date s key serial)
rolls true date s key serial = scratches (is_unexpired (s.set key serial) date) s key serial
rolls false date s key serial = unchanged s

after_roll : (r : Result Rolled GroupFault) (g : GroupState) (base : List ℕ) (date : ℕ) (s : Store) → GainsNone s (after_rolling r g base date s)
after_roll (Ok (Removed low serial)) g base date s = rolls g.scratch date s (Named (generation_name base low)) serial
after_roll (Ok Entered) g base date s = unchanged s
after_roll (Ok Lowest) g base date s = unchanged s
after_roll (Ok Same) g base date s = unchanged s
after_roll (Err f) g base date s = unchanged s

generation_by : (m : Option Member) (base serial : List ℕ) (date : ℕ) (s : Store) → GainsNone s (generation_entered_by m base serial date s)
generation_by None base serial date s = unchanged s
generation_by (Some m) base serial date s =
    chained s (with_entry s base (Some (Group (with_entered m.1 m.0 serial)))) _
    (same_sets s (with_entry s base (Some (Group (with_entered m.1 m.0 serial)))) refl)
    (after_roll (entered m.1 m.0 serial) m.1 base date (with_entry s base (Some (Group (with_entered m.1 m.0 serial)))))

generation : (s : Store) (key : Key) (serial : List ℕ) (date : ℕ) → GainsNone s (generation_entered s key serial date)
generation s (Named name) serial date = generation_by (member_of s name) (base_of name) serial date s
generation s (Relative base sign amount) serial date = unchanged s
generation s (Temporary name) serial date = unchanged s
generation s (Unnamed step dd) serial date = unchanged s

pub changes : (c : Change) (s : Store) (key : Key) (serial : List ℕ) (date : ℕ) → GainsNone s (changed c s key serial date)
changes change.Nothing s key serial date = unchanged s
changes change.Scratch s key serial date = removed s key serial
changes change.ScratchAndUncatalog s key serial date =
    chained s (with_set s key serial None) (uncatalogued (with_set s key serial None) key) (removed s key serial)
    (same_sets (with_set s key serial None) (uncatalogued (with_set s key serial None) key) (uncatalogued_set (with_set s key serial None) key))
changes change.Catalog s key serial date = same_sets s (name_entered s key serial) (name_set s key serial)
changes change.Uncatalog s key serial date = same_sets s (uncatalogued s key) (uncatalogued_set s key)
changes change.EnterGeneration s key serial date = generation s key serial date

-- what a fault gives back
back_if : (b : Bool) (s : Store) (key : Key) (serial : List ℕ) → GainsNone s (cond b (with_set s key serial None) s)
back_if true s key serial = removed s key serial
back_if false s key serial = unchanged s

one_back : (t : Option TakenSet) (s : Store) → GainsNone s (set_given_back t s)
one_back None s = unchanged s
one_back (Some t) s = back_if (is_deleted_back t) s t.key t.serial

pub all_back : (xs : List DdState) (s : Store) → GainsNone s (all_given_back xs s)
all_back [] s = unchanged s
all_back (x ∷ xs) s = chained s (set_given_back x.taken s) (all_given_back xs (set_given_back x.taken s)) (one_back x.taken s) (all_back xs (set_given_back x.taken s))
