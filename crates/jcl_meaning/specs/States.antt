-- The state of a job while it runs, and what an action did.
use Rattle.std.specs.Prelude.{ℕ, ◌+◌, Bool, true, false, ◌&&◌, ◌==◌, List, [], ◌∷◌, Option, Some, None, is_none, if◌then◌else◌}
use Rattle.jcl_plan.specs.declared.entry.JobLine.{JobLine}
use Rattle.jcl_plan.specs.declared.entry.JobLine.TheVariants as line
use Rattle.jcl_plan.specs.declared.fault.Fault.{Fault}
use Rattle.jcl_plan.specs.declared.outcome.Abend.{Abend}
use Rattle.jcl_plan.specs.declared.outcome.Abend.TheVariants as abend
use Rattle.jcl_plan.specs.declared.outcome.Outcome.{Outcome}
use Rattle.jcl_plan.specs.declared.outcome.Outcome.TheVariants as outcome
use Rattle.jcl_plan.specs.declared.plan.Test.{Test}
use Rattle.jcl_meaning.specs.declared.state.KeyMeaning.{KeyMeaning}
use Rattle.jcl_meaning.specs.declared.state.Own.{Own}
use Rattle.jcl_meaning.specs.declared.state.Place.{Place}
use Rattle.jcl_meaning.specs.Stores.{Store}

-- What a job does not decide itself, each list used up in order: how its steps end and, for each, after how many program lines a cancel
-- comes; whether a growth is granted (a missing answer grants it); and whether a primary is.
pub record Answers : Type 0 where
  pub outcomes : List Outcome
  pub cancels : List (Option ℕ)
  pub grants : List Bool
  pub primary : Bool

pub record State : Type 0 where
  pub store : Store
  pub own : Own
  pub answers : Answers

-- What is fixed for a job: its JOB tests, the volumes as configured, where its DDs' sets are placed, what their keys mean, and its date.
pub record Fixed : Type 0 where
  pub job_tests : List Test
  pub volumes : List (List ℕ)
  pub places : List Place
  pub meanings : List KeyMeaning
  pub date : ℕ

-- what an action did: the lines that it wrote, the state after it, the fault that it met, and the set that it made
pub record Done : Type 0 where
  pub lines : List JobLine
  pub state : State
  pub meets : Option Fault
  pub made : List Place

-- no fault was met
abbrev pub no_fault : Option Fault → Bool
no_fault None = true
no_fault (Some fault) = false

abbrev pub goes : List JobLine → State → Done
goes lines s = record { lines = lines; state = s; meets = None; made = [] }

abbrev pub silent : State → Done
silent s = goes [] s

abbrev pub with_own : State → Own → State
with_own s own = record { store = s.store; own = own; answers = s.answers }

abbrev pub if_runs : Bool → State → Done → Done
if_runs true s done = done
if_runs false s done = silent s

-- a step begins, or is passed over
abbrev pub at_step : Own → Bool → Own
at_step own runs = record own { runs = runs; over = None; dds = []; due = None; lines = 0 }

-- the step's program goes on
abbrev pub asks_open : Own → Bool
asks_open own = own.runs && is_none own.over

-- a program wrote a line, and nothing is due
abbrev pub wrote : Own → Own
wrote own = record own { due = None; lines = own.lines + 1 }

-- a cancel stands in the place of the next program line
abbrev pub cancel_due : List (Option ℕ) → ℕ → Bool
cancel_due [] lines = false
cancel_due (None ∷ rest) lines = false
cancel_due (Some n ∷ rest) lines = n == lines

abbrev pub abended_by : Abend → State → Done
abended_by a s = goes (line.Abend a ∷ []) (with_own s (record s.own { over = Some (outcome.Abend a); due = None; lines = s.own.lines + 1 }))

abbrev pub unless_cancelled : State → Done → Done
unless_cancelled s done = if cancel_due s.answers.cancels s.own.lines then abended_by abend.S222 s else done

-- a step's end uses its answers up
abbrev pub others : {X : Type 0} → List X → List X
others [] = []
others (x ∷ xs) = xs

abbrev pub with_answers_used : Answers → Answers
with_answers_used a = record { outcomes = others a.outcomes; cancels = others a.cancels; grants = a.grants; primary = a.primary }
