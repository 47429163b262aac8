-- What is promised of an assured job.
use Rattle.std.specs.Prelude.{◌≡◌, ℕ, ◌≤◌, Bool, true, false, ◌==◌, List, [], ◌∷◌, ◌++◌, length, Option, Some, None, if◌then◌else◌}
use Rattle.std.specs.List.{filter_map, flat_map, list_any}
use Rattle.jcl_plan.specs.declared.entry.Entry.{Entry}
use Rattle.jcl_plan.specs.declared.entry.Entry.TheVariants as entry
use Rattle.jcl_plan.specs.declared.entry.JobLine.{JobLine}
use Rattle.jcl_plan.specs.declared.entry.JobLine.TheVariants as line
use Rattle.jcl_plan.specs.declared.plan.JobPlan.{JobPlan}
use Rattle.jcl_meaning.specs.declared.solo.SoloAnswers.{SoloAnswers}
use Rattle.jcl_meaning.specs.declared.state.Place.{Place}
use Rattle.jcl_meaning.specs.Agendas.{budget_of}
use Rattle.jcl_meaning.specs.Solo.{Ran, is_clean, nothing_own, solo_of}
use Rattle.jcl_meaning.specs.States.{Fixed}
use Rattle.cb_meaning.specs.Spelled.{Denotes}
use Rattle.world_meaning.specs.declared.event.Event.{Event}
use Rattle.world_meaning.specs.Admissions.{fixed_at}
use Rattle.world_meaning.specs.Choices.{actions_along}
use Rattle.world_meaning.specs.Lenses.{seen}
use Rattle.world_meaning.specs.Placements.{ArePlaces}
use Rattle.world_meaning.specs.Readings.{Denoting}
use Rattle.world_meaning.specs.Starts.{IsStart}
use Rattle.world_meaning.specs.Transitions.{Runs, Transition}
use Rattle.world_meaning.specs.Worlds.{Admitted, Initiator, IsAt, Running, World}

-- A job's lines in a listing.
abbrev pub line_of : ℕ → Entry → Option JobLine
line_of job (entry.Job other line) = if other == job then Some line else None
line_of job other = None

abbrev pub lines_of : ℕ → List (List Entry) → List JobLine
lines_of job listing = filter_map (line_of job) (flat_map (λ lines. lines) listing)

-- The solo meaning of a job, in a store, for some answers.
abbrev pub solo_in : World → ℕ → JobPlan → Fixed → SoloAnswers → Ran
solo_in w job plan fixed answers = solo_of fixed plan (seen job w.shared.store) w.config.programs answers

pub record IsPrefix (lines whole : List JobLine) : Type 0 where
  pub behind : List JobLine
  pub joined : lines ++ behind ≡ whole

abbrev pub is_end : JobLine → Bool
is_end line.End = true
is_end other = false

-- What a job has written so far is a prefix of its solo meaning in the store at its admission, for some answers, and the whole once END stands in
-- it. That meets no fault. The job wrote a line at each of its actions, and these are no more than its budget.
pub record KeepsMeaning (admission : World) (job : ℕ) (plan : JobPlan) (fixed : Fixed) (written : List JobLine) (actions : ℕ) : Type 0 where
  pub answers : SoloAnswers
  pub clean : is_clean (solo_in admission job plan fixed answers) ≡ true
  pub prefix : IsPrefix written (solo_in admission job plan fixed answers).lines
  pub whole : list_any is_end written ≡ true → written ≡ (solo_in admission job plan fixed answers).lines
  pub each : actions ≡ length written
  pub few : actions ≤ budget_of plan admission.config.programs

-- the job is at an initiator, before its first action, and this is recorded for it: its plan, the places of its sets, what its keys mean, and the date
pub record IsRecorded (w : World) (job : ℕ) (plan : JobPlan) (fixed : Fixed) : Type 0 where
  pub place : ℕ
  pub it : Initiator
  pub at : IsAt w place it
  pub running : Running
  pub runs : it.running ≡ Some running
  pub its : running.job ≡ job
  pub stage : running.stage ≡ Admitted plan (record { fixed = fixed; assured = true }) 0 nothing_own

-- What is promised of a job from its ASSURED line on, which leads from one world to the next: its records denote a plan, this is recorded with its
-- places in the store as the job sees it, the line tells its budget, and whatever comes it keeps its solo meaning.
pub record IsPromised (job_of : Denoting) (admission next : World) (job stated : ℕ) : Type 0 where
  pub plan : JobPlan
  pub numbers : List ℕ
  pub denoted : Denotes admission.config.layout (length admission.config.units) admission.shared.records job numbers plan
  pub places : List Place
  pub placed : ArePlaces admission.config plan places
  pub recorded : IsRecorded next job plan (fixed_at admission.config admission.shared job plan places)
  pub budget : stated ≡ budget_of plan admission.config.programs
  pub keeps : (events : List Event) (told : List (List Entry)) (end : World) (runs : Runs job_of next events told end) →
      KeepsMeaning admission job plan (fixed_at admission.config admission.shared job plan places) (lines_of job told)
      (actions_along job job_of next events told end runs)

-- the lines of an event that is answered ASSURED t TRACKS b ACTIONS of a job
abbrev pub assured_lines : ℕ → ℕ → ℕ → List Entry
assured_lines job tracks stated = entry.Job job (line.Assured tracks stated) ∷ []

-- Whatever the events, a job that is answered ASSURED keeps, from there on, the solo meaning of what its records denote.
abbrev pub AssuredRun : Type 0
AssuredRun = (job_of : Denoting) (start w v : World) (before : List Event) (e : Event) (told : List (List Entry)) (job tracks stated : ℕ) →
    IsStart start → Runs job_of start before told w → Transition job_of w e (assured_lines job tracks stated) v → IsPromised job_of w v job stated
