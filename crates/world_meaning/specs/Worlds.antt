-- The machine at a moment, whole.
use Rattle.std.specs.Prelude.{◌≡◌, ◌≢◌, ℕ, ◌+◌, Bool, not, ◌==◌, List, ◌++◌, filter, map, Option, Some, slice_get, slice_set, All}
use Rattle.enq_core.specs.declared.table.Hold.{Hold}
use Rattle.jcl_plan.specs.declared.entry.Entry.{Entry}
use Rattle.jcl_plan.specs.declared.entry.Entry.TheVariants as entry
use Rattle.jcl_plan.specs.declared.entry.JobLine.{JobLine}
use Rattle.jcl_plan.specs.declared.plan.JobPlan.{JobPlan}
use Rattle.jcl_meaning.specs.declared.program.SoloProgram.{SoloProgram}
use Rattle.jcl_meaning.specs.declared.state.Own.{Own}
use Rattle.jcl_meaning.specs.States.{Fixed}
use Rattle.cb_meaning.specs.declared.layout.Layout.{Layout}
use Rattle.cb_meaning.specs.Spelled.{Records}
use Rattle.machine_meaning.specs.declared.machine.SpoolSet.{SpoolSet}
use Rattle.prog_core.specs.declared.units.Operation.{Operation}
use Rattle.world_meaning.specs.Lenses.{WorldStore}

-- What the session's configuration fixes: the serials of the volumes, the volumes of each unit name, by its number from 1, the programs, the
-- layout of the queue's records, whether jobs that may fail are refused, the limit of views, and whether a risk's path is shown.
pub record Config : Type 0 where
  pub volumes : List (List ℕ)
  pub units : List (List (List ℕ))
  pub programs : List SoloProgram
  pub layout : Layout
  pub refuses : Bool
  pub most_views : ℕ
  pub explains : Bool

-- tracks that are kept on a volume for the set that a DD of a job is to make there
pub record Kept : Type 0 where
  pub job : ℕ
  pub step : ℕ
  pub dd : ℕ
  pub tracks : ℕ

-- what all jobs change: sets and catalog, each volume's free tracks, and what is kept on it, each for one DD of a job; the records of the queue, the
-- names that are held, operations under way, jobs whose cancel has not acted yet, what the writers have to write, and the date
pub record Shared : Type 0 where
  pub store : WorldStore
  pub free : List ℕ → ℕ
  pub kept : List ℕ → List Kept
  pub records : Records
  pub holds : List Hold
  pub operations : List Operation
  pub cancels : List ℕ
  pub spool : List SpoolSet
  pub date : ℕ

-- a job in the queue: class and priority as its READ line tells them, the number of its JCT, and its lines so far
pub record Waiting : Type 0 where
  pub job : ℕ
  pub class : ℕ
  pub priority : ℕ
  pub first : ℕ
  pub listing : List JobLine

-- what admission gives a job: what is fixed for it, and whether its primaries are kept
pub record Admission : Type 0 where
  pub fixed : Fixed
  pub assured : Bool

-- How far an initiator is with its job: its records are to be read; they are read, and it waits for its names; these are held; it is admitted,
-- and so many actions of its agenda are done.
pub data Stage : Type 0 where
  Selected : ℕ → Stage
  Wanting : JobPlan → Stage
  Named : JobPlan → Stage
  Admitted : JobPlan → Admission → ℕ → Own → Stage

pub record Running : Type 0 where
  pub job : ℕ
  pub listing : List JobLine
  pub stage : Stage

-- an initiator, the classes that it selects from, in their order, and its job
pub record Initiator : Type 0 where
  pub number : ℕ
  pub classes : List ℕ
  pub running : Option Running

-- the jobs that wait stand in the order of reading; so many job numbers were given, and so many events came
pub record World : Type 0 where
  pub config : Config
  pub shared : Shared
  pub initiators : List Initiator
  pub waiting : List Waiting
  pub jobs : ℕ
  pub events : ℕ

-- the initiator at this place of the list
abbrev pub IsAt : World → ℕ → Initiator → Type 0
IsAt w place x = slice_get w.initiators place ≡ Some x

-- no initiator has the number
abbrev pub HasNoInitiator : World → ℕ → Type 0
HasNoInitiator w number = All (λ x. x.number ≢ number) w.initiators

abbrev pub with_running : List Initiator → ℕ → Initiator → Option Running → List Initiator
with_running initiators place x running = slice_set initiators place (record x { running = running })

abbrev pub without_waiting : List Waiting → ℕ → List Waiting
without_waiting waiting job = filter (λ w. not (w.job == job)) waiting

-- lines of a job in the listing
abbrev pub of_job : ℕ → List JobLine → List Entry
of_job job lines = map (entry.Job job) lines

abbrev pub counted : World → World
counted w = record w { events = w.events + 1 }

-- what a job's turn leaves its initiator with: the job goes on from this stage, or it is over
abbrev pub going_on : Running → List JobLine → Stage → Option Running
going_on r lines stage = Some (record r { listing = r.listing ++ lines; stage = stage })
