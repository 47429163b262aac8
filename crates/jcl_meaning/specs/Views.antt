-- What a run sees behind each step. (This profile)
use Rattle.std.specs.Prelude.{◌≡◌, ℕ, Bool, true, false, ◌&&◌, ◌==◌, List, [], ◌∷◌, map, take, drop, All, Option, Some, None, if◌then◌else◌}
use Rattle.std.specs.List.{list_any}
use Rattle.jname_core.specs.declared.key.Key.{Key}
use Rattle.group_core.specs.declared.entry.CatEntry.{CatEntry}
use Rattle.jcl_plan.specs.declared.outcome.Outcome.{Outcome}
use Rattle.jcl_plan.specs.declared.plan.DdKind.{DdKind}
use Rattle.jcl_plan.specs.declared.plan.DdKind.TheVariants.{Sysout, Dummy, Cards, Set}
use Rattle.jcl_plan.specs.declared.plan.JobPlan.{JobPlan}
use Rattle.jcl_plan.specs.declared.plan.StepPlan.{StepPlan}
use Rattle.jcl_plan.specs.declared.plan.VolumePlan.{VolumePlan}
use Rattle.jcl_plan.specs.declared.plan.VolumePlan.TheVariants.{NotCoded, Serial, OfName, OfDd}
use Rattle.jcl_meaning.specs.declared.state.Passed.{Passed}
use Rattle.jcl_meaning.specs.declared.store.DataSet.{DataSet}
use Rattle.jcl_meaning.specs.Agendas.{steps_from}
use Rattle.jcl_meaning.specs.History.{IsStepOutcome, abended, satisfied}
use Rattle.jcl_meaning.specs.Names.{names_of}
use Rattle.jcl_meaning.specs.Parts.{part_of}
use Rattle.jcl_meaning.specs.Programs.{moves_of}
use Rattle.jcl_meaning.specs.Solo.{Ran, at_start, given, is_clean, run}
use Rattle.jcl_meaning.specs.States.{Fixed, State}
use Rattle.jcl_meaning.specs.Stores.{Store, is_unexpired}
use Rattle.jcl_meaning.specs.Takes.{dd_volume}

-- a set that is there, unexpired or not
abbrev pub shown_set : Option DataSet → ℕ → Option Bool
shown_set None date = None
shown_set (Some set) date = Some (is_unexpired (Some set) date)

-- a DD that a VOL=REF of these steps names
abbrev pub refers : VolumePlan → ℕ → ℕ → Bool
refers NotCoded step dd = false
refers (Serial serial) step dd = false
refers (OfName name) step dd = false
refers (OfDd s d) step dd = s == step && d == dd

abbrev pub kind_refers : DdKind → ℕ → ℕ → Bool
kind_refers (Sysout class) step dd = false
kind_refers Dummy step dd = false
kind_refers (Cards cards) step dd = false
kind_refers (Set p) step dd = refers p.volume step dd

abbrev pub steps_refer : List StepPlan → ℕ → ℕ → Bool
steps_refer steps step dd = list_any (λ s. list_any (λ d. kind_refers d.kind step dd) s.dds) steps

-- What a run sees: which sets are there, each unexpired or not; what is entered; the passed sets in their order; the volumes of the DDs
-- that later steps refer to; whether an ABEND came; and which tests of the JOB statement and of later steps are met so far.
pub record View : Type 0 where
  pub sets : Key → List ℕ → Option Bool
  pub catalog : List ℕ → Option CatEntry
  pub passed : List Passed
  pub volumes : ℕ → ℕ → Option (List ℕ)
  pub abended : Bool
  pub job_tests : List Bool
  pub step_tests : List (List Bool)

abbrev pub view_at : JobPlan → ℕ → ℕ → State → View
view_at plan k date s = record {
  sets = λ key serial. shown_set ((part_of (names_of plan) s.store).set key serial) date;
  catalog = (part_of (names_of plan) s.store).catalog;
  passed = s.own.passed;
  volumes = λ step dd. if steps_refer (drop k plan.steps) step dd then dd_volume s.own.volumes step dd else None;
  abended = abended s.own.ended;
  job_tests = map (satisfied s.own.ended) plan.tests.items;
  step_tests = map (λ step. map (satisfied s.own.ended) step.tests.items) (drop k plan.steps);
}

-- a run along given outcomes to behind the k-th step
abbrev pub ran_to : Fixed → JobPlan → Store → ℕ → List Outcome → Ran
ran_to fixed plan store k outcomes = run fixed (steps_from (moves_of []) 1 (take k plan.steps)) (at_start store (given outcomes))

abbrev pub view_of : Fixed → JobPlan → Store → ℕ → List Outcome → View
view_of fixed plan store k outcomes = view_at plan k fixed.date (ran_to fixed plan store k outcomes).state

-- the views behind the k-th step: those of all runs that come so far without a fault
pub record IsViewAfter (fixed : Fixed) (plan : JobPlan) (store : Store) (k : ℕ) (view : View) : Type 0 where
  pub outcomes : List Outcome
  pub within : All IsStepOutcome outcomes
  pub without_fault : is_clean (ran_to fixed plan store k outcomes) ≡ true
  pub seen : view ≡ view_of fixed plan store k outcomes
