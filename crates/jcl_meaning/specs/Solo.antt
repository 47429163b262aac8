-- The meaning of a job alone: its agenda, action by action.
use Rattle.std.specs.Prelude.{◌≡◌, ℕ, suc, Bool, true, false, ◌&&◌, ◌==◌, List, [], ◌∷◌, ◌++◌, map, length, Option, Some, None, if◌then◌else◌}
use Rattle.jcl_plan.specs.declared.entry.JobLine.{JobLine}
use Rattle.jcl_plan.specs.declared.fault.Fault.{Fault}
use Rattle.jcl_plan.specs.declared.outcome.Outcome.{Outcome}
use Rattle.jcl_plan.specs.declared.plan.JobPlan.{JobPlan}
use Rattle.jcl_meaning.specs.declared.program.SoloProgram.{SoloProgram}
use Rattle.jcl_meaning.specs.declared.solo.SoloAnswers.{SoloAnswers}
use Rattle.jcl_meaning.specs.declared.solo.SoloRun.{SoloRun}
use Rattle.jcl_meaning.specs.declared.state.Own.{Own}
use Rattle.jcl_meaning.specs.declared.state.KeyMeaning.{KeyMeaning}
use Rattle.jcl_meaning.specs.declared.state.Place.{Place}
use Rattle.jcl_meaning.specs.declared.store.SoloStore.{SoloStore}
use Rattle.jcl_meaning.specs.Acts.{act}
use Rattle.jcl_meaning.specs.Agendas.{Action, agenda, path_agenda}
use Rattle.jcl_meaning.specs.Programs.{ending_of}
use Rattle.jcl_meaning.specs.States.{Answers, Done, Fixed, State}
use Rattle.jcl_meaning.specs.Resolutions.{meanings_of}
use Rattle.jcl_meaning.specs.Stores.{Store, store_of}

-- a fault that was met, and how many actions came before it
pub record Met : Type 0 where
  pub place : ℕ
  pub fault : Fault

-- what a list of actions did: its lines, the state after it, the faults that it met, and the sets that it made
pub record Ran : Type 0 where
  pub lines : List JobLine
  pub state : State
  pub faults : List Met
  pub made : List Place

abbrev pub later : Met → Met
later m = record { place = suc m.place; fault = m.fault }

abbrev pub met_first : Option Fault → List Met → List Met
met_first None more = more
met_first (Some fault) more = record { place = 0; fault = fault } ∷ more

-- an action, and the actions behind it
abbrev pub then_ran : Done → (State → Ran) → Ran
then_ran done next = record {
  lines = done.lines ++ (next done.state).lines;
  state = (next done.state).state;
  faults = met_first done.meets (map later (next done.state).faults);
  made = done.made ++ (next done.state).made;
}

unfoldable pub run : Fixed → List Action → State → Ran
run fixed [] s = record { lines = []; state = s; faults = []; made = [] }
run fixed (a ∷ actions) s = then_ran (act fixed a s) (λ t. run fixed actions t)

-- no fault, and no word that is one
abbrev pub is_clean : Ran → Bool
is_clean ran = length ran.faults == 0

-- What is fixed for a job: the tests of its JOB statement, the volumes, where its sets are placed, what its keys mean, and the date.
abbrev pub fixed_with : List (List ℕ) → JobPlan → List Place → List KeyMeaning → ℕ → Fixed
fixed_with volumes plan places meanings date =
    record { job_tests = plan.tests.items; volumes = volumes; places = places; meanings = meanings; date = date }

-- in a store: its relative numbers are resolved there, once
abbrev pub fixed_in : List (List ℕ) → Store → JobPlan → List Place → ℕ → Fixed
fixed_in volumes store plan places date = fixed_with volumes plan places (meanings_of store plan) date

abbrev pub nothing_own : Own
nothing_own = record {
  passed = [];
  ended = [];
  faulted = false;
  volumes = [];
  outputs = [];
  runs = false;
  over = None;
  dds = [];
  due = None;
  lines = 0;
}

abbrev pub at_start : Store → Answers → State
at_start store answers = record { store = store; own = nothing_own; answers = answers }

-- The solo meaning of a job in a store: its programs end its steps; growths are granted and cancels come as the answers say, primaries are
-- granted.
abbrev pub answers_of : JobPlan → List SoloProgram → SoloAnswers → Answers
answers_of plan programs answers = record {
  outcomes = map (λ step. ending_of programs step.program) plan.steps;
  cancels = answers.cancels;
  grants = answers.grants;
  primary = true;
}

abbrev pub solo_of : Fixed → JobPlan → Store → List SoloProgram → SoloAnswers → Ran
solo_of fixed plan store programs answers = run fixed (agenda plan programs) (at_start store (answers_of plan programs answers))

-- The solo meaning along given outcomes, one a step.
abbrev pub given : List Outcome → Answers
given outcomes = record { outcomes = outcomes; cancels = []; grants = []; primary = true }

abbrev pub solo_path_of : Fixed → JobPlan → Store → List Outcome → Ran
solo_path_of fixed plan store outcomes = run fixed (path_agenda plan) (at_start store (given outcomes))

-- of a job that is alone: in a store of lists
abbrev pub fixed_alone : SoloStore → JobPlan → List Place → ℕ → Fixed
fixed_alone store plan places date = fixed_in store.volumes (store_of store) plan places date

-- a run of the code is a run of the definition
pub record IsSoloRun (result : SoloRun) (start : SoloStore) (ran : Ran) : Type 0 where
  pub lines : result.lines ≡ ran.lines
  pub store : store_of result.store ≡ ran.state.store
  pub volumes : result.store.volumes ≡ start.volumes
  pub clean : result.clean ≡ is_clean ran
