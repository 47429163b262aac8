-- States of which a job sees the same: between steps what a view shows, and in the midst of a step what the step keeps beside it.
use Rattle.std.specs.Prelude.{◌≡◌, ℕ, Bool, true, List, [], ◌∷◌, None}
use Rattle.std.specs.List.{AllByRecursion}
use Rattle.jname_core.specs.declared.key.Key.{Key}
use Rattle.jcl_plan.specs.declared.outcome.Outcome.{Outcome}
use Rattle.jcl_plan.specs.declared.plan.DdKind.{DdKind}
use Rattle.jcl_plan.specs.declared.plan.DdKind.TheVariants.{Sysout, Dummy, Cards, Set}
use Rattle.jcl_plan.specs.declared.plan.StepPlan.{StepPlan}
use Rattle.jcl_plan.specs.declared.plan.Test.{Test}
use Rattle.jcl_plan.specs.declared.plan.VolumePlan.{VolumePlan}
use Rattle.jcl_plan.specs.declared.plan.VolumePlan.TheVariants.{NotCoded, Serial, OfName, OfDd}
use Rattle.jcl_meaning.specs.declared.names.HeldName.{HeldName}
use Rattle.jcl_meaning.specs.declared.state.DdState.{DdState}
use Rattle.jcl_meaning.specs.declared.state.DdVolume.{DdVolume}
use Rattle.jcl_meaning.specs.declared.state.Ended.{Ended}
use Rattle.jcl_meaning.specs.declared.state.Passed.{Passed}
use Rattle.jcl_meaning.specs.EndActs.{after_abend}
use Rattle.jcl_meaning.specs.History.{abended, satisfied}
use Rattle.jcl_meaning.specs.Parts.{sees_key, seen_entry}
use Rattle.jcl_meaning.specs.Solo.{Ran, given}
use Rattle.jcl_meaning.specs.States.{Done, State}
use Rattle.jcl_meaning.specs.Stores.{Store}
use Rattle.jcl_meaning.specs.Takes.{dd_volume}
use Rattle.jcl_meaning.specs.Views.{shown_set}
use Rattle.path_meaning.specs.Paths.{fates_in}
use Rattle.path_laws.specs.PathParts.{IsOneClass, next_outcome}

-- To a job with these names two stores show the same: under each key that it sees a set that is there or not, unexpired or not, and the same
-- entries.
pub record ShowAlike (names : List HeldName) (date : ℕ) (s t : Store) : Type 0 where
  pub sets : (key : Key) (serial : List ℕ) → sees_key names key ≡ true → shown_set (s.set key serial) date ≡ shown_set (t.set key serial) date
  pub entries : (name : List ℕ) → seen_entry names name (s.catalog name) ≡ seen_entry names name (t.catalog name)

-- What a job still looks at: the tests of its JOB statement and those of the steps behind the one at hand, and the DDs whose volumes VOL=REF
-- still asks for.
pub record Outlook : Type 0 where
  pub tests : List Test
  pub later : List StepPlan
  pub refers : ℕ → ℕ → Bool

-- each of these tests is met by both histories or by neither
abbrev pub MetAlike : List Ended → List Ended → List Test → Type 0
MetAlike es fs tests = AllByRecursion (λ test. satisfied es test ≡ satisfied fs test) tests

-- what of a state a job may come to see
pub record Sight : Type 0 where
  pub store : Store
  pub passed : List Passed
  pub volumes : List DdVolume
  pub ended : List Ended

abbrev pub sight_of : State → Sight
sight_of s = record { store = s.store; passed = s.own.passed; volumes = s.own.volumes; ended = s.own.ended }

-- two sights show the same, as far as the job still looks
pub record SeenAlike (names : List HeldName) (date : ℕ) (outlook : Outlook) (a b : Sight) : Type 0 where
  pub stores : ShowAlike names date a.store b.store
  pub passed : a.passed ≡ b.passed
  pub volumes : (step dd : ℕ) → outlook.refers step dd ≡ true → dd_volume a.volumes step dd ≡ dd_volume b.volumes step dd
  pub abended : abended a.ended ≡ abended b.ended
  pub job : MetAlike a.ended b.ended outlook.tests
  pub steps : AllByRecursion (λ step. MetAlike a.ended b.ended step.tests.items) outlook.later

-- DDs of which each took the same
abbrev pub TookAlike : List DdState → List DdState → Type 0
TookAlike [] [] = Unit {0}
TookAlike [] (y ∷ ys) = ⊥
TookAlike (x ∷ xs) [] = ⊥
TookAlike (x ∷ xs) (y ∷ ys) = (x.taken ≡ y.taken) × TookAlike xs ys

-- In the midst of step n, before its end: it runs in both or in neither, its DDs took the same, and if it runs, the outcomes that come next are
-- of one class.
pub record OpenAlike (names : List HeldName) (date : ℕ) (outlook : Outlook) (n : ℕ) (os ps : List Outcome) (s t : State) : Type 0 where
  pub seen : SeenAlike names date outlook (sight_of s) (sight_of t)
  pub runs : s.own.runs ≡ t.own.runs
  pub dds : TookAlike s.own.dds t.own.dds
  pub unended : s.own.over ≡ None
  pub unended_too : t.own.over ≡ None
  pub answers : s.answers ≡ given os
  pub answers_too : t.answers ≡ given ps
  pub class : s.own.runs ≡ true → IsOneClass n outlook.tests outlook.later (next_outcome os) (next_outcome ps)

-- behind its end: it ended by an ABEND in both or in neither
pub record ShutAlike (names : List HeldName) (date : ℕ) (outlook : Outlook) (s t : State) : Type 0 where
  pub seen : SeenAlike names date outlook (sight_of s) (sight_of t)
  pub runs : s.own.runs ≡ t.own.runs
  pub dds : TookAlike s.own.dds t.own.dds
  pub abend : after_abend s.own.over ≡ after_abend t.own.over

-- two actions did the same, but for the lines that they wrote, and left states that are so related
pub record DidAlike (Related : State → State → Type 0) (d e : Done) : Type 0 where
  pub fates : fates_in d.lines ≡ fates_in e.lines
  pub meets : d.meets ≡ e.meets
  pub made : d.made ≡ e.made
  pub state : Related d.state e.state

-- and so did two runs
pub record RanAlike (Related : State → State → Type 0) (a b : Ran) : Type 0 where
  pub fates : fates_in a.lines ≡ fates_in b.lines
  pub faults : a.faults ≡ b.faults
  pub made : a.made ≡ b.made
  pub state : Related a.state b.state

-- a DD that VOL=REF names is one whose volume is still known alike
abbrev pub IsAsked : (ℕ → ℕ → Bool) → VolumePlan → Type 0
IsAsked refers NotCoded = Unit {0}
IsAsked refers (Serial serial) = Unit {0}
IsAsked refers (OfName name) = Unit {0}
IsAsked refers (OfDd step dd) = refers step dd ≡ true

abbrev pub IsKindAsked : (ℕ → ℕ → Bool) → DdKind → Type 0
IsKindAsked refers (Sysout class) = Unit {0}
IsKindAsked refers Dummy = Unit {0}
IsKindAsked refers (Cards cards) = Unit {0}
IsKindAsked refers (Set p) = IsAsked refers p.volume
