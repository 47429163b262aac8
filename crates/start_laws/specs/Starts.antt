-- A job that sees the same of two stores as it starts: what is told of it in the one stands in the other. (This profile)
use Rattle.std.specs.Prelude.{◌≡◌, ◌≤◌, ℕ, List, length}
use Rattle.jname_core.specs.declared.key.Key.{Key}
use Rattle.jcl_plan.specs.declared.fault.Fault.{Fault}
use Rattle.jcl_plan.specs.declared.outcome.Outcome.{Outcome}
use Rattle.jcl_plan.specs.declared.plan.JobPlan.{JobPlan}
use Rattle.jcl_meaning.specs.declared.state.Place.{Place}
use Rattle.jcl_meaning.specs.declared.program.SoloProgram.{SoloProgram}
use Rattle.jcl_meaning.specs.Agendas.{budget_of, path_agenda}
use Rattle.jcl_meaning.specs.Names.{names_of}
use Rattle.jcl_meaning.specs.Parts.{part_of}
use Rattle.jcl_meaning.specs.Resolutions.{meanings_of}
use Rattle.jcl_meaning.specs.Solo.{nothing_own, solo_path_of}
use Rattle.jcl_meaning.specs.States.{Fixed}
use Rattle.jcl_meaning.specs.Stores.{Store}
use Rattle.jcl_meaning.specs.Views.{shown_set}
use Rattle.part_laws.specs.Fits.{Fits}
use Rattle.path_meaning.specs.Explanations.{path_lines}
use Rattle.path_meaning.specs.Verdicts.{IsEarliest, IsFirstWithMore, IsFree}

-- A job sees the same of two stores: of each set under its names whether it is there, and unexpired on this date; and each entry.
pub record SeesSame (plan : JobPlan) (date : ℕ) (s t : Store) : Type 0 where
  pub sets : (key : Key) (serial : List ℕ) →
      shown_set ((part_of (names_of plan) s).set key serial) date ≡ shown_set ((part_of (names_of plan) t).set key serial) date
  pub catalog : (name : List ℕ) → (part_of (names_of plan) s).catalog name ≡ (part_of (names_of plan) t).catalog name

-- Its keys mean the same in both.
abbrev pub MeaningsAreSeen : Type 0
MeaningsAreSeen = (plan : JobPlan) (date : ℕ) (s t : Store) → SeesSame plan date s t → meanings_of s plan ≡ meanings_of t plan

-- What is fixed for a job is of this plan, and its own state fits its agenda before it has done anything.
pub record IsAnalysed (fixed : Fixed) (plan : JobPlan) : Type 0 where
  pub tests : fixed.job_tests ≡ plan.tests.items
  pub fits : Fits (names_of plan) fixed.meanings (path_agenda plan) nothing_own

-- Free of faults in the one, it is free of them in the other, and makes its sets at the same places.
abbrev pub FreeIsSeen : Type 0
FreeIsSeen = (fixed : Fixed) (plan : JobPlan) (s t : Store) (limit : ℕ) (places : List Place) → IsAnalysed fixed plan → SeesSame plan fixed.date s t →
    IsFree fixed plan s limit places → IsFree fixed plan t limit places

-- Its earliest fault in the one is that in the other, on the same path.
abbrev pub EarliestIsSeen : Type 0
EarliestIsSeen = (fixed : Fixed) (plan : JobPlan) (s t : Store) (limit : ℕ) (fault : Fault) (step dd : ℕ) (path : List Outcome) → IsAnalysed fixed plan →
    SeesSame plan fixed.date s t → IsEarliest fixed plan s limit fault step dd path → IsEarliest fixed plan t limit fault step dd path

-- On one path it writes the same lines in both.
abbrev pub PathIsSeen : Type 0
PathIsSeen = (fixed : Fixed) (plan : JobPlan) (s t : Store) (outcomes : List Outcome) → IsAnalysed fixed plan → SeesSame plan fixed.date s t →
    (solo_path_of fixed plan s outcomes).lines ≡ (solo_path_of fixed plan t outcomes).lines

-- What explains a risk, on whatever path, is no longer than the job's budget.
abbrev pub ExplanationIsFew : Type 0
ExplanationIsFew = (fixed : Fixed) (plan : JobPlan) (store : Store) (path : List Outcome) (programs : List SoloProgram) →
    length (path_lines fixed plan store path) ≤ budget_of plan programs

-- The first step with more views than the limit is the same.
abbrev pub FirstWithMoreIsSeen : Type 0
FirstWithMoreIsSeen = (fixed : Fixed) (plan : JobPlan) (s t : Store) (limit step : ℕ) → IsAnalysed fixed plan → SeesSame plan fixed.date s t →
    IsFirstWithMore fixed plan s limit step → IsFirstWithMore fixed plan t limit step
