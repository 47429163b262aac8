-- What a job is answered holds of it in the machine as it was, and nothing else does. (This profile)
use Rattle.std.specs.Prelude.{◌≡◌, ℕ, List, length, take, Some}
use Rattle.std.specs.List.{Contains}
use Rattle.jcl_plan.specs.declared.entry.Entry.{Entry}
use Rattle.jcl_plan.specs.declared.entry.Entry.TheVariants as entry
use Rattle.jcl_plan.specs.declared.entry.JobLine.{JobLine}
use Rattle.jcl_plan.specs.declared.entry.JobLine.TheVariants as line
use Rattle.jcl_plan.specs.declared.fault.Fault.{Fault}
use Rattle.jcl_plan.specs.declared.outcome.Outcome.{Outcome}
use Rattle.jcl_plan.specs.declared.plan.JobPlan.{JobPlan}
use Rattle.cb_meaning.specs.Walks.{first_fault}
use Rattle.walk_laws.specs.WalkLaws.{DenotesSome}
use Rattle.session_input.specs.declared.event.Event.{Event}
use Rattle.world_meaning.specs.Worlds.{Named, Running, Selected, Stage, World}
use Rattle.law_core.specs.Soundness.{RunsAt}
use Rattle.sched_core.specs.Told.{IsTold, fixed_by_room}
use Rattle.sched_core.specs.Systems.{Along, Drives, IsDriven, Machine, Steps, world_of}

-- the job of an initiator, so far
pub record IsThere (w : World) (job : ℕ) (stage : Stage) : Type 0 where
  pub place : ℕ
  pub runs : Running
  pub at : RunsAt w place runs
  pub its_own : runs.job ≡ job
  pub so_far : runs.stage ≡ stage

-- BROKEN: the records of a selected job denote no job, and the number is that of their first fault.
pub record IsBroken (m : Machine) (job n : ℕ) : Type 0 where
  pub first : ℕ
  pub there : IsThere (world_of m) job (Selected first)
  pub fault : first_fault m.config.layout (length m.config.units) (world_of m).shared.records job first ≡ Some n
  pub none : DenotesSome m.config.layout (length m.config.units) (world_of m).shared.records job first → ⊥

-- What else could be told: nothing, but for which of the paths to that place a RISK tells, and the fault that is met on it.
abbrev pub IsSameAnswer : JobLine → JobLine → Type 0
IsSameAnswer (line.Risk fault step dd path) other = (f : Fault) × (p : List Outcome) × (other ≡ line.Risk f step dd p)
IsSameAnswer told other = other ≡ told

-- ASSURED, WAIT SPACE, RISK, TOOMANY: it is told of a job whose names are held, with its sets placed by the rule on the volumes as they are, and nothing else
-- could be.
pub record IsExact (m : Machine) (job : ℕ) (told : JobLine) : Type 0 where
  pub plan : JobPlan
  pub there : IsThere (world_of m) job (Named plan)
  pub holds : IsTold m.parts.store m.config.programs m.config.most_views job plan (fixed_by_room m.parts.store m.config.units job plan m.parts.date) told
  pub only : (other : JobLine) →
      IsTold m.parts.store m.config.programs m.config.most_views job plan (fixed_by_room m.parts.store m.config.units job plan m.parts.date) other →
      IsSameAnswer told other

abbrev pub IsExactly : Machine → ℕ → JobLine → Type 0
IsExactly m job (line.Broken n) = IsBroken m job n
IsExactly m job (line.Assured tracks actions) = IsExact m job (line.Assured tracks actions)
IsExactly m job (line.WaitSpace serial) = IsExact m job (line.WaitSpace serial)
IsExactly m job (line.Risk fault step dd path) = IsExact m job (line.Risk fault step dd path)
IsExactly m job (line.TooMany step) = IsExact m job (line.TooMany step)
IsExactly m job told = Unit {0}

-- whichever of them stands among the lines of an event that comes to the machine
abbrev pub AreExact : Machine → List Entry → Type 0
AreExact m lines = (job : ℕ) (told : JobLine) → Contains lines (entry.Job job told) → IsExactly m job told

pub record AnswersAreExact : Type 0 where
  pub each : (old : Machine) (e : Event) (lines : List Entry) (new : World) → Steps old e lines new → AreExact old lines

-- the same of each step along a chain of machines
pub record AreExactAlong (old : Machine) (events : List Event) (entries : List (List Entry)) (new : Machine) (chain : Drives old events entries new) : Type 0 where
  pub along : Along (λ m e lines next s. AreExact m lines) old events entries new chain

-- so they are along the events of a list that were done
abbrev pub AnswersOfDrive : Type 0
AnswersOfDrive = (old : Machine) (events : List Event) (entries : List (List Entry)) (done : ℕ) (new : Machine) → (d : IsDriven old events entries done new) →
    AreExactAlong old (take done events) entries new d.drives
