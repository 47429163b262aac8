-- A job's path in parts: each step is one, and behind the last step stands the job's end. (This profile)
use Rattle.std.specs.Prelude.{◌≡◌, ℕ, ◌+◌, Bool, false, List, [], ◌∷◌, ◌++◌, drop}
use Rattle.std.specs.List.{AllByRecursion}
use Rattle.jcl_plan.specs.declared.outcome.Outcome.{Outcome}
use Rattle.jcl_plan.specs.declared.outcome.Outcome.TheVariants.{Code}
use Rattle.jcl_plan.specs.declared.plan.JobPlan.{JobPlan}
use Rattle.jcl_plan.specs.declared.plan.StepPlan.{StepPlan}
use Rattle.jcl_plan.specs.declared.plan.Test.{Test}
use Rattle.jcl_meaning.specs.declared.state.Own.{Own}
use Rattle.jcl_meaning.specs.Agendas.{Action, Over, lefts_from, step_actions}
use Rattle.jcl_meaning.specs.EndActs.{as_ending}
use Rattle.jcl_meaning.specs.History.{is_abend, is_run, met_by}
use Rattle.jcl_meaning.specs.RequestActs.{head_or}
use Rattle.jcl_meaning.specs.Solo.{given}
use Rattle.jcl_meaning.specs.States.{Fixed, State}
use Rattle.jcl_meaning.specs.TakeActs.{fate_at}

-- part k, by the steps from step k + 1 on: that step, or the job's end where there is none
abbrev pub part_from : ℕ → List StepPlan → List StepPlan → List Action
part_from k steps [] = lefts_from 1 steps ++ (Over ∷ [])
part_from k steps (step ∷ later) = step_actions (k + 1) step []

abbrev pub path_part : JobPlan → ℕ → List Action
path_part plan k = part_from k plan.steps (drop k plan.steps)

-- whether the step of a part runs; the job's end is no step
abbrev pub part_runs : Fixed → List StepPlan → Own → Bool
part_runs fixed [] own = false
part_runs fixed (step ∷ later) own = is_run (fate_at fixed step own)

-- Before a part: no fault has ended the job, and these outcomes are given for the steps to come.
pub record IsBefore (s : State) (outcomes : List Outcome) : Type 0 where
  pub unfaulted : s.own.faulted ≡ false
  pub answers : s.answers ≡ given outcomes

-- how the next step ends if it runs: past the end of the outcomes by code 0
abbrev pub next_outcome : List Outcome → Outcome
next_outcome outcomes = as_ending (head_or (Code 0) outcomes)

-- each of these tests is met by both ends of a step or by neither
abbrev pub MeetAlike : ℕ → Outcome → Outcome → List Test → Type 0
MeetAlike step o p tests = AllByRecursion (λ test. met_by test step o ≡ met_by test step p) tests

-- Two ends of a step are of one class where nothing that comes later can tell them apart: both are ABENDs or neither is, and the tests of the
-- JOB statement and those of the later steps are met alike. A test that does not look at this step is met by neither.
pub record IsOneClass (step : ℕ) (job_tests : List Test) (later : List StepPlan) (o p : Outcome) : Type 0 where
  pub abend : is_abend o ≡ is_abend p
  pub job : MeetAlike step o p job_tests
  pub steps : AllByRecursion (λ s. MeetAlike step o p s.tests.items) later
