-- A set that a DD takes is what the DD says: it is made only where it is held alone.
use Rattle.std.proofs.Common.{◌≡◌, ℕ, Bool, true, false, cond, List, [], ◌∷◌, Option, Some, None, refl, subst}
use Rattle.std.specs.List.{AllByRecursion}
use Rattle.jname_core.specs.declared.key.Key.{Key}
use Rattle.jname_core.specs.declared.key.Key.TheVariants.{Named, Relative, Temporary, Unnamed}
use Rattle.jname_core.specs.Generations.{base_of}
use Rattle.jcl_plan.specs.declared.plan.Status.{Status}
use Rattle.jcl_plan.specs.declared.plan.Status.TheVariants.{New, Old, Shr, Mod}
use Rattle.jcl_meaning.specs.declared.names.HeldName.{HeldName}
use Rattle.jcl_meaning.specs.declared.state.KeyMeaning.{KeyMeaning}
use Rattle.jcl_meaning.specs.declared.state.Passed.{Passed}
use Rattle.jcl_meaning.specs.declared.take.Decision.{Decision}
use Rattle.jcl_meaning.specs.declared.take.Decision.TheVariants.{Refuses, Takes}
use Rattle.jcl_meaning.specs.declared.take.How.{How}
use Rattle.jcl_meaning.specs.declared.take.How.TheVariants as how
use Rattle.jcl_meaning.specs.declared.take.Target.{Target}
use Rattle.jcl_meaning.specs.declared.take.Target.TheVariants as target
use Rattle.jcl_meaning.specs.declared.take.Where.{Where}
use Rattle.jcl_meaning.specs.declared.take.Where.TheVariants.{Anywhere, At, Lost}
use Rattle.jcl_meaning.specs.Names.{is_shr, same_key}
use Rattle.jcl_meaning.specs.Parts.{is_alone}
use Rattle.jcl_meaning.specs.TakeActs.{passed_left}
use Rattle.jcl_meaning.specs.Takes.{decide, first_passed, taken, target_of, there_or, without_passed}
use Rattle.part_laws.specs.Fits.{IsPassed, sees_alone}
use Rattle.part_laws.proofs.SameWrites.{same_bytes}

-- keys of one set are held alike
pub alone_by_key : (names : List HeldName) (a b : Key) → same_key a b ≡ true → sees_alone names a ≡ true → sees_alone names b ≡ true
alone_by_key names (Named a) (Named b) e h = subst (λ (n : List ℕ). is_alone names (base_of n) ≡ true) (same_bytes a b e) h
alone_by_key names (Relative a x n) (Named b) e h = absurd cc
alone_by_key names (Temporary a) (Named b) e h = absurd cc
alone_by_key names (Unnamed x n) (Named b) e h = absurd cc
alone_by_key names (Named a) (Relative b y m) e h = absurd cc
alone_by_key names (Relative a x n) (Relative b y m) e h = h
alone_by_key names (Temporary a) (Relative b y m) e h = absurd cc
alone_by_key names (Unnamed x n) (Relative b y m) e h = absurd cc
alone_by_key names a (Temporary b) e h = refl
alone_by_key names a (Unnamed y m) e h = refl

-- the passed set of a key
module _ (P : Passed → Type 0) where
  found_first : (b : Bool) (r : Passed) (rest : Option Passed) (key : Key) (q : Passed) → same_key r.key key ≡ b → P r → cond b (Some r) rest ≡ Some q →
      (rest ≡ Some q → P q × (same_key q.key key ≡ true)) → P q × (same_key q.key key ≡ true)
  found_first true r rest key q eb h e more = let is : r ≡ q = cc in subst (λ (z : Passed). P z × (same_key z.key key ≡ true)) is (h, eb)
  found_first false r rest key q eb h e more = more e

  first_there : (qs : List Passed) (key : Key) (q : Passed) → AllByRecursion P qs → first_passed qs key ≡ Some q → P q × (same_key q.key key ≡ true)
  first_there [] key q h e = absurd cc
  first_there (r ∷ qs) key q h e = found_first (same_key r.key key) r (first_passed qs key) key q refl h.0 e (first_there qs key q h.1)

  without_first : (b : Bool) (r : Passed) (qs rest : List Passed) → P r → AllByRecursion P qs → AllByRecursion P rest → AllByRecursion P (cond b qs (r ∷ rest))
  without_first true r qs rest h all more = all
  without_first false r qs rest h all more = (h, more)

  all_but_first : (qs : List Passed) (key : Key) → AllByRecursion P qs → AllByRecursion P (without_passed qs key)
  all_but_first [] key h = tt
  all_but_first (r ∷ qs) key h = without_first (same_key r.key key) r qs (without_passed qs key) h.0 h.1 (all_but_first qs key h.1)

  pub all_left : (h : How) (qs : List Passed) (key : Key) → AllByRecursion P qs → AllByRecursion P (passed_left h qs key)
  all_left how.Made qs key all = all
  all_left how.Found qs key all = all
  all_left how.FoundByCatalog qs key all = all
  all_left (how.Received made by_catalog) qs key all = all_but_first qs key all

module _ (names : List HeldName) (key : Key) where
  -- what is decided of a key: a set is made, or received as one that was made, only where it is held alone
  abbrev pub IsSoundTarget : Target → Type 0
  IsSoundTarget (target.Makes place) = sees_alone names key ≡ true
  IsSoundTarget (target.Finds serial) = Unit {0}
  IsSoundTarget (target.Receives q) = q.made ≡ true → sees_alone names key ≡ true
  IsSoundTarget (target.FindsByCatalog serial) = Unit {0}
  IsSoundTarget target.Misses = Unit {0}

  abbrev pub IsSoundHow : How → Type 0
  IsSoundHow how.Made = sees_alone names key ≡ true
  IsSoundHow how.Found = Unit {0}
  IsSoundHow how.FoundByCatalog = Unit {0}
  IsSoundHow (how.Received made by_catalog) = made ≡ true → sees_alone names key ≡ true

  abbrev pub IsSound : Decision → Type 0
  IsSound (Refuses fault) = Unit {0}
  IsSound (Takes serial h) = IsSoundHow h

  pub made_alone : (h : How) (serial : List ℕ) → IsSoundHow h → (taken key serial h).made ≡ true → sees_alone names key ≡ true
  made_alone how.Made serial h e = h
  made_alone how.Found serial h e = absurd cc
  made_alone how.FoundByCatalog serial h e = absurd cc
  made_alone (how.Received made by_catalog) serial h e = h e

  pub received_alone : (meanings : List KeyMeaning) (qs : List Passed) → AllByRecursion (IsPassed names meanings) qs → (q : Passed) →
      first_passed qs key ≡ Some q → q.made ≡ true → sees_alone names key ≡ true
  received_alone meanings qs all q e made =
      let there = first_there (IsPassed names meanings) qs key q all e in
      alone_by_key names q.key key there.1 (there.0.made made)

  there_sound : (passed : Option Passed) (entered : Option (List ℕ)) (other : Target) →
      ((q : Passed) → passed ≡ Some q → q.made ≡ true → sees_alone names key ≡ true) → IsSoundTarget other → IsSoundTarget (there_or passed entered other)
  there_sound (Some q) entered other received h = received q refl
  there_sound None (Some serial) other received h = tt
  there_sound None None other received h = h

  pub target_sound : (status : Status) (at : Where) (passed : Option Passed) (entered place : Option (List ℕ)) →
      (is_shr status ≡ false → sees_alone names key ≡ true) →
      ((q : Passed) → passed ≡ Some q → q.made ≡ true → sees_alone names key ≡ true) → IsSoundTarget (target_of status at passed entered place)
  target_sound status Lost passed entered place alone received = tt
  target_sound New (At serial) passed entered place alone received = alone refl
  target_sound Old (At serial) passed entered place alone received = tt
  target_sound Shr (At serial) passed entered place alone received = tt
  target_sound Mod (At serial) passed entered place alone received = tt
  target_sound New Anywhere passed entered place alone received = alone refl
  target_sound Old Anywhere passed entered place alone received = there_sound passed entered target.Misses received tt
  target_sound Shr Anywhere passed entered place alone received = there_sound passed entered target.Misses received tt
  target_sound Mod Anywhere passed entered place alone received = there_sound passed entered (target.Makes place) received (alone refl)

  pub decide_sound : (t : Target) (known there space granted : Bool) → IsSoundTarget t → IsSound (decide t known there space granted)
  decide_sound (target.Makes None) known there space granted h = tt
  decide_sound (target.Makes (Some serial)) false there space granted h = tt
  decide_sound (target.Makes (Some serial)) true true space granted h = tt
  decide_sound (target.Makes (Some serial)) true false false granted h = tt
  decide_sound (target.Makes (Some serial)) true false true false h = tt
  decide_sound (target.Makes (Some serial)) true false true true h = h
  decide_sound (target.Finds serial) false there space granted h = tt
  decide_sound (target.Finds serial) true false space granted h = tt
  decide_sound (target.Finds serial) true true space granted h = tt
  decide_sound (target.Receives q) known false space granted h = tt
  decide_sound (target.Receives q) known true space granted h = h
  decide_sound (target.FindsByCatalog serial) known false space granted h = tt
  decide_sound (target.FindsByCatalog serial) known true space granted h = tt
  decide_sound target.Misses known there space granted h = tt
