-- What a job writes in two stores with equal parts leaves equal parts.
use Rattle.std.proofs.Common.{◌≡◌, ◌&&◌, ℕ, Bool, true, false, cond, List, [], ◌∷◌, Option, Some, None, Result, Ok, Err, refl, sym, ap, subst, rules}
use Rattle.std.specs.Prelude.{◌==◌, is_some}
use Rattle.std.specs.Str.{bytes_eq}
use Rattle.std.proofs.lemmas.Slice.Eq.{bytes_eq-Decides}
use Rattle.jname_core.specs.declared.key.Key.{Key}
use Rattle.jname_core.specs.declared.key.Key.TheVariants.{Named, Relative, Temporary, Unnamed}
use Rattle.jname_core.specs.Generations.{base_of, generation_name}
use Rattle.group_core.specs.declared.entry.CatEntry.{CatEntry}
use Rattle.group_core.specs.declared.entry.CatEntry.TheVariants.{Volume, Group}
use Rattle.group_core.specs.declared.group.GroupFault.{GroupFault}
use Rattle.group_core.specs.declared.group.Rolled.{Rolled}
use Rattle.group_core.specs.declared.group.Rolled.TheVariants.{Entered, Removed, Lowest, Same}
use Rattle.group_core.specs.Entries.{Member}
use Rattle.group_core.specs.Groups.{GroupState, entered, with_entered, without}
use Rattle.jcl_plan.specs.declared.plan.SetPlan.{SetPlan}
use Rattle.jcl_meaning.specs.declared.names.HeldName.{HeldName}
use Rattle.jcl_meaning.specs.declared.state.Change.{Change}
use Rattle.jcl_meaning.specs.declared.state.Change.TheVariants as change
use Rattle.jcl_meaning.specs.declared.state.DdState.{DdState}
use Rattle.jcl_meaning.specs.declared.state.TakenSet.{TakenSet}
use Rattle.jcl_meaning.specs.declared.store.DataSet.{DataSet}
use Rattle.jcl_meaning.specs.declared.take.How.{How}
use Rattle.jcl_meaning.specs.declared.take.How.TheVariants as how
use Rattle.jcl_meaning.specs.Dispositions.{changed, is_deleted_back}
use Rattle.jcl_meaning.specs.EndActs.{tracks_released}
use Rattle.jcl_meaning.specs.Parts.{SamePart, but_for_tracks, compared, is_alone, is_among, seen_entry}
use Rattle.jcl_meaning.specs.Programs.{appended, or_nothing}
use Rattle.jcl_meaning.specs.RequestActs.{appended_at}
use Rattle.jcl_meaning.specs.States.{Fixed}
use Rattle.jcl_meaning.specs.Stores.{Store, after_rolling, cut, cut_at, generation_entered, generation_entered_by, is_unexpired, member_of, name_entered, rolled_off, scratched_unless, uncatalogued, uncatalogued_by, with_entry, with_set, with_set_there}
use Rattle.jcl_meaning.specs.TakeActs.{all_given_back, set_given_back, new_set, store_made}
use Rattle.meaning_laws.proofs.Parts.{part_along, part_back}
use Rattle.part_laws.specs.Fits.{sees_set}
use Rattle.part_laws.proofs.SameReads.{both_unexpired, same_but_for_tracks, same_member}

pub same_bytes : (a b : List ℕ) → bytes_eq a b ≡ true → a ≡ b
same_bytes a b h = grind (rules, bytes_eq-Decides a b)

-- the same stands under a key in both, as far as a job with these names can tell
abbrev pub IsSameAt : List HeldName → Key → Option DataSet → Option DataSet → Type 0
IsSameAt names (Named name) x y = is_among names (base_of name) ≡ true → compared names name x ≡ compared names name y
IsSameAt names (Relative base sign amount) x y = Unit {0}
IsSameAt names (Temporary name) x y = x ≡ y
IsSameAt names (Unnamed step dd) x y = x ≡ y

pub same_itself : (names : List HeldName) (key : Key) (x : Option DataSet) → IsSameAt names key x x
same_itself names (Named name) x = λ h. refl
same_itself names (Relative base sign amount) x = tt
same_itself names (Temporary name) x = refl
same_itself names (Unnamed step dd) x = refl

pub same_at : (names : List HeldName) (s t : Store) → SamePart names s t → (key : Key) (serial : List ℕ) →
    IsSameAt names key (s.set key serial) (t.set key serial)
same_at names s t p (Named name) serial = p.named name serial
same_at names s t p (Relative base sign amount) serial = tt
same_at names s t p (Temporary name) serial = p.temporary name serial
same_at names s t p (Unnamed step dd) serial = p.unnamed step dd serial

-- a set written in both
named_written : (names : List HeldName) (n name : List ℕ) (x y a b : Option DataSet) (here there : Bool) → bytes_eq n name ≡ here →
    is_among names (base_of n) ≡ true →
    (is_among names (base_of name) ≡ true → compared names name x ≡ compared names name y) → compared names n a ≡ compared names n b →
    compared names n (cond (here && there) x a) ≡ compared names n (cond (here && there) y b)
named_written names n name x y a b true true e h same rest =
    subst (λ (m : List ℕ). is_among names (base_of m) ≡ true → compared names m x ≡ compared names m y) (sym (same_bytes n name e)) same h
named_written names n name x y a b true false e h same rest = rest
named_written names n name x y a b false there e h same rest = rest

pub set_written : (names : List HeldName) (s t : Store) → SamePart names s t → (key : Key) (serial : List ℕ) (x y : Option DataSet) → IsSameAt names key x y →
    SamePart names (with_set s key serial x) (with_set t key serial y)
set_written names s t p (Named name) serial x y e = record {
  named = λ n v h. named_written names n name x y (s.set (Named n) v) (t.set (Named n) v) (bytes_eq n name) (bytes_eq v serial) refl h e (p.named n v h);
  temporary = p.temporary;
  unnamed = p.unnamed;
  catalog = p.catalog;
}
set_written names s t p (Relative base sign amount) serial x y e = record { named = p.named; temporary = p.temporary; unnamed = p.unnamed; catalog = p.catalog }
set_written names s t p (Temporary name) serial x y e = record {
  named = p.named;
  temporary = λ n v i. cond (bytes_eq n name && bytes_eq v serial) (e i) (p.temporary n v i);
  unnamed = p.unnamed;
  catalog = p.catalog;
}
set_written names s t p (Unnamed step dd) serial x y e = record {
  named = p.named;
  temporary = p.temporary;
  unnamed = λ n d v i. cond ((n == step && d == dd) && bytes_eq v serial) (e i) (p.unnamed n d v i);
  catalog = p.catalog;
}

pub same_written : (names : List HeldName) (s t : Store) → SamePart names s t → (key : Key) (serial : List ℕ) (x : Option DataSet) →
    SamePart names (with_set s key serial x) (with_set t key serial x)
same_written names s t p key serial x = set_written names s t p key serial x x (same_itself names key x)

-- a set written where the job sees none changes nothing that it sees
unseen_named : (names : List HeldName) (n name : List ℕ) (x a : Option DataSet) (here there : Bool) → bytes_eq n name ≡ here →
    is_among names (base_of n) ≡ true → is_among names (base_of name) ≡ false → compared names n a ≡ compared names n (cond (here && there) x a)
unseen_named names n name x a true true e h unseen =
    let seen : is_among names (base_of name) ≡ true = subst (λ (m : List ℕ). is_among names (base_of m) ≡ true) (same_bytes n name e) h in
    absurd (cc (seen, unseen))
unseen_named names n name x a true false e h unseen = refl
unseen_named names n name x a false there e h unseen = refl

pub unseen_written : (names : List HeldName) (s : Store) (key : Key) (serial : List ℕ) (x : Option DataSet) → sees_set names key ≡ false →
    SamePart names s (with_set s key serial x)
unseen_written names s (Named name) serial x unseen = record {
  named = λ n v h. unseen_named names n name x (s.set (Named n) v) (bytes_eq n name) (bytes_eq v serial) refl h unseen;
  temporary = λ n v. refl;
  unnamed = λ n d v. refl;
  catalog = λ n. refl;
}
unseen_written names s (Relative base sign amount) serial x unseen =
    record { named = λ n v h. refl; temporary = λ n v. refl; unnamed = λ n d v. refl; catalog = λ n. refl }
unseen_written names s (Temporary name) serial x unseen = absurd cc
unseen_written names s (Unnamed step dd) serial x unseen = absurd cc

-- a set that is there, changed in the same way in both: tracks are not told where they were not
module _ (names : List HeldName) (f : DataSet → DataSet)
    (respects : (a b : DataSet) → but_for_tracks (Some a) ≡ but_for_tracks (Some b) → but_for_tracks (Some (f a)) ≡ but_for_tracks (Some (f b))) where
  changed_there : Option DataSet → Option DataSet
  changed_there None = None
  changed_there (Some a) = Some (f a)

  either_changed : (alone : Bool) (a b : DataSet) → cond alone (Some a) (but_for_tracks (Some a)) ≡ cond alone (Some b) (but_for_tracks (Some b)) →
      cond alone (Some (f a)) (but_for_tracks (Some (f a))) ≡ cond alone (Some (f b)) (but_for_tracks (Some (f b)))
  unfolding changed_there
  either_changed true a b e = ap changed_there e
  either_changed false a b e = respects a b e

  pub same_changed : (key : Key) (a b : DataSet) → IsSameAt names key (Some a) (Some b) → IsSameAt names key (Some (f a)) (Some (f b))
  unfolding changed_there
  same_changed (Named name) a b e = λ h. either_changed (is_alone names (base_of name)) a b (e h)
  same_changed (Relative base sign amount) a b e = tt
  same_changed (Temporary name) a b e = ap changed_there e
  same_changed (Unnamed step dd) a b e = ap changed_there e

pub cut_both : (names : List HeldName) (s t : Store) → SamePart names s t → (key : Key) (serial : List ℕ) (x y : Option DataSet) →
    but_for_tracks x ≡ but_for_tracks y → IsSameAt names key x y → SamePart names (cut_at x s key serial) (cut_at y t key serial)
cut_both names s t p key serial None None there e = p
cut_both names s t p key serial None (Some b) there e = absurd cc
cut_both names s t p key serial (Some a) None there e = absurd cc
cut_both names s t p key serial (Some a) (Some b) there e =
    set_written names s t p key serial (Some (cut a)) (Some (cut b)) (same_changed names cut (λ c d f. f) key a b e)

append_there : List ℕ → Option DataSet → Option DataSet
append_there text None = None
append_there text (Some a) = Some (appended text a)

append_respects : (text : List ℕ) (a b : DataSet) → but_for_tracks (Some a) ≡ but_for_tracks (Some b) →
    but_for_tracks (Some (appended text a)) ≡ but_for_tracks (Some (appended text b))
unfolding append_there
append_respects text a b e = ap (append_there text) e

append_both : (names : List HeldName) (s t : Store) → SamePart names s t → (key : Key) (serial text : List ℕ) (x y : Option DataSet) →
    but_for_tracks x ≡ but_for_tracks y → IsSameAt names key x y →
    SamePart names (with_set_there x (appended text (or_nothing x)) s key serial) (with_set_there y (appended text (or_nothing y)) t key serial)
append_both names s t p key serial text None None there e = p
append_both names s t p key serial text None (Some b) there e = absurd cc
append_both names s t p key serial text (Some a) None there e = absurd cc
append_both names s t p key serial text (Some a) (Some b) there e =
    set_written names s t p key serial (Some (appended text a)) (Some (appended text b)) (same_changed names (appended text) (append_respects text) key a b e)

pub same_there_written : (names : List HeldName) (s t : Store) → SamePart names s t → (key : Key) (serial : List ℕ) (set : DataSet) (x y : Option DataSet) →
    is_some x ≡ is_some y → SamePart names (with_set_there x set s key serial) (with_set_there y set t key serial)
same_there_written names s t p key serial set None None there = p
same_there_written names s t p key serial set None (Some b) there = absurd cc
same_there_written names s t p key serial set (Some a) None there = absurd cc
same_there_written names s t p key serial set (Some a) (Some b) there = same_written names s t p key serial (Some set)

pub same_appended : (names : List HeldName) (s t : Store) → SamePart names s t → (x : TakenSet) (text : List ℕ) → sees_set names x.key ≡ true →
    SamePart names (appended_at (Some x) text s) (appended_at (Some x) text t)
same_appended names s t p x text h =
    append_both names s t p x.key x.serial text (s.set x.key x.serial) (t.set x.key x.serial)
    (same_but_for_tracks names s t p x.key x.serial h) (same_at names s t p x.key x.serial)

-- an entry written in both
pub same_entry : (names : List HeldName) (s t : Store) → SamePart names s t → (name : List ℕ) (entry : Option CatEntry) →
    SamePart names (with_entry s name entry) (with_entry t name entry)
same_entry names s t p name entry = record {
  named = p.named;
  temporary = p.temporary;
  unnamed = p.unnamed;
  catalog = λ n. entered_at n (bytes_eq n name);
}
  where
    entered_at : (n : List ℕ) (here : Bool) → seen_entry names n (cond here entry (s.catalog n)) ≡ seen_entry names n (cond here entry (t.catalog n))
    entered_at n true = refl
    entered_at n false = p.catalog n

uncatalogued_in_both : (names : List HeldName) (s t : Store) → SamePart names s t → (m : Option Member) (name : List ℕ) →
    SamePart names (uncatalogued_by m s name) (uncatalogued_by m t name)
uncatalogued_in_both names s t p None name = same_entry names s t p name None
uncatalogued_in_both names s t p (Some m) name =
    same_entry names s t p (base_of name) (Some (Group (record m.1 { generations = without m.1.generations m.0 })))

pub same_uncatalogued : (names : List HeldName) (s t : Store) → SamePart names s t → (key : Key) → sees_set names key ≡ true →
    SamePart names (uncatalogued s key) (uncatalogued t key)
same_uncatalogued names s t p (Named name) h =
    subst (λ (m : Option Member). SamePart names (uncatalogued_by (member_of s name) s name) (uncatalogued_by m t name)) (same_member names s t p name h)
    (uncatalogued_in_both names s t p (member_of s name) name)
same_uncatalogued names s t p (Relative base sign amount) h = p
same_uncatalogued names s t p (Temporary name) h = p
same_uncatalogued names s t p (Unnamed step dd) h = p

pub same_name_entered : (names : List HeldName) (s t : Store) → SamePart names s t → (key : Key) (serial : List ℕ) →
    SamePart names (name_entered s key serial) (name_entered t key serial)
same_name_entered names s t p (Named name) serial = same_entry names s t p name (Some (Volume serial))
same_name_entered names s t p (Relative base sign amount) serial = p
same_name_entered names s t p (Temporary name) serial = p
same_name_entered names s t p (Unnamed step dd) serial = p

-- a generation that rolls off: where its name is held both know alike whether it is expired, and where not, the job sees nothing of it
scratched_in_both : (names : List HeldName) (s t : Store) → SamePart names s t → (key : Key) (serial : List ℕ) (x y seen : Bool) → sees_set names key ≡ seen →
    (seen ≡ true → x ≡ y) → SamePart names (scratched_unless x s key serial) (scratched_unless y t key serial)
scratched_in_both names s t p key serial true true seen e same = p
scratched_in_both names s t p key serial false false seen e same = same_written names s t p key serial None
scratched_in_both names s t p key serial true false true e same = absurd (cc (same refl))
scratched_in_both names s t p key serial false true true e same = absurd (cc (same refl))
scratched_in_both names s t p key serial true false false e same =
    part_along names s t (with_set t key serial None) p (unseen_written names t key serial None e)
scratched_in_both names s t p key serial false true false e same =
    part_along names (with_set s key serial None) s t (part_back names s (with_set s key serial None) (unseen_written names s key serial None e)) p

rolled_in_both : (names : List HeldName) (s t : Store) → SamePart names s t → (scratch : Bool) (date : ℕ) (key : Key) (serial : List ℕ) →
    SamePart names (rolled_off scratch date s key serial) (rolled_off scratch date t key serial)
rolled_in_both names s t p false date key serial = p
rolled_in_both names s t p true date key serial =
    scratched_in_both names s t p key serial (is_unexpired (s.set key serial) date) (is_unexpired (t.set key serial) date) (sees_set names key) refl
    (λ h. both_unexpired (s.set key serial) (t.set key serial) date (same_but_for_tracks names s t p key serial h))

after_rolling_in_both : (names : List HeldName) (s t : Store) → SamePart names s t →
    (r : Result Rolled GroupFault) (g : GroupState) (base : List ℕ) (date : ℕ) →
    SamePart names (after_rolling r g base date s) (after_rolling r g base date t)
after_rolling_in_both names s t p (Ok (Removed low serial)) g base date = rolled_in_both names s t p g.scratch date (Named (generation_name base low)) serial
after_rolling_in_both names s t p (Ok Entered) g base date = p
after_rolling_in_both names s t p (Ok Lowest) g base date = p
after_rolling_in_both names s t p (Ok Same) g base date = p
after_rolling_in_both names s t p (Err f) g base date = p

generation_in_both : (names : List HeldName) (s t : Store) → SamePart names s t → (m : Option Member) (base serial : List ℕ) (date : ℕ) →
    SamePart names (generation_entered_by m base serial date s) (generation_entered_by m base serial date t)
generation_in_both names s t p None base serial date = p
generation_in_both names s t p (Some m) base serial date =
    let entry : Option CatEntry = Some (Group (with_entered m.1 m.0 serial)) in
    after_rolling_in_both names (with_entry s base entry) (with_entry t base entry) (same_entry names s t p base entry) (entered m.1 m.0 serial) m.1 base date

pub same_generation : (names : List HeldName) (s t : Store) → SamePart names s t → (key : Key) (serial : List ℕ) (date : ℕ) → sees_set names key ≡ true →
    SamePart names (generation_entered s key serial date) (generation_entered t key serial date)
same_generation names s t p (Named name) serial date h =
    subst (λ (m : Option Member). SamePart names (generation_entered_by (member_of s name) (base_of name) serial date s)
    (generation_entered_by m (base_of name) serial date t))
    (same_member names s t p name h)
    (generation_in_both names s t p (member_of s name) (base_of name) serial date)
same_generation names s t p (Relative base sign amount) serial date h = p
same_generation names s t p (Temporary name) serial date h = p
same_generation names s t p (Unnamed step dd) serial date h = p

-- what a disposition changes, and what it releases
pub same_change : (names : List HeldName) (s t : Store) → SamePart names s t → (c : Change) (key : Key) (serial : List ℕ) (date : ℕ) →
    sees_set names key ≡ true → SamePart names (changed c s key serial date) (changed c t key serial date)
same_change names s t p change.Nothing key serial date h = p
same_change names s t p change.Scratch key serial date h = same_written names s t p key serial None
same_change names s t p change.ScratchAndUncatalog key serial date h =
    same_uncatalogued names (with_set s key serial None) (with_set t key serial None) (same_written names s t p key serial None) key h
same_change names s t p change.Catalog key serial date h = same_name_entered names s t p key serial
same_change names s t p change.Uncatalog key serial date h = same_uncatalogued names s t p key h
same_change names s t p change.EnterGeneration key serial date h = same_generation names s t p key serial date h

pub same_release : (names : List HeldName) (s t : Store) → SamePart names s t → (b : Bool) (key : Key) (serial : List ℕ) → sees_set names key ≡ true →
    SamePart names (tracks_released b key serial s) (tracks_released b key serial t)
same_release names s t p false key serial h = p
same_release names s t p true key serial h =
    cut_both names s t p key serial (s.set key serial) (t.set key serial) (same_but_for_tracks names s t p key serial h) (same_at names s t p key serial)

-- a set that is made, and sets that are given back
pub same_made : (names : List HeldName) (s t : Store) → SamePart names s t → (h : How) (fixed : Fixed) (plan : SetPlan) (key : Key) (serial : List ℕ) →
    SamePart names (store_made h fixed plan key serial s) (store_made h fixed plan key serial t)
same_made names s t p how.Made fixed plan key serial = same_written names s t p key serial (Some (new_set fixed plan key))
same_made names s t p how.Found fixed plan key serial = p
same_made names s t p how.FoundByCatalog fixed plan key serial = p
same_made names s t p (how.Received made by_catalog) fixed plan key serial = p

one_given_back : (names : List HeldName) (s t : Store) → SamePart names s t → (x : Option TakenSet) → SamePart names (set_given_back x s) (set_given_back x t)
one_given_back names s t p None = p
one_given_back names s t p (Some x) = deleted_if (is_deleted_back x)
  where
    deleted_if : (b : Bool) → SamePart names (cond b (with_set s x.key x.serial None) s) (cond b (with_set t x.key x.serial None) t)
    deleted_if true = same_written names s t p x.key x.serial None
    deleted_if false = p

pub same_given_back : (names : List HeldName) (s t : Store) → SamePart names s t → (xs : List DdState) →
    SamePart names (all_given_back xs s) (all_given_back xs t)
same_given_back names s t p [] = p
same_given_back names s t p (x ∷ xs) = same_given_back names (set_given_back x.taken s) (set_given_back x.taken t) (one_given_back names s t p x.taken) xs
