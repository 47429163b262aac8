-- What a job's turn came to, as a case of the machine's table, and what it leaves for the next event.
use Rattle.std.specs.Prelude.{◌≡◌, ◌≢◌, ℕ, suc, ◌≤◌, List, length, Option, Some, None}
use Rattle.std.specs.Option.{option_map}
use Rattle.enq_core.specs.declared.table.Hold.{Hold}
use Rattle.enq_core.specs.Holds.{HoldsNone}
use Rattle.cb_queue.specs.RecordQueues.{RecordQueue}
use Rattle.world_meaning.specs.Choices.{choice_of_going}
use Rattle.world_meaning.specs.Records.{Reopened}
use Rattle.world_meaning.specs.Lenses.{seen}
use Rattle.world_meaning.specs.Transitions as world
use Rattle.world_meaning.specs.Turns.{has_cancel}
use Rattle.world_meaning.specs.Worlds.{Config, Shared}
use Rattle.shared_core.specs.Shown.{world_store_of}
use Rattle.turn_core.specs.Standing.{JobEnds}
use Rattle.turn_core.specs.declared.walk.Walk.{Walk}
use Rattle.admit_core.specs.Admissions.{named_of}
use Rattle.admit_core.specs.declared.admission.AdmittedJob.{AdmittedJob}
use Rattle.machine_core.specs.declared.parts.Parts.{Parts}
use Rattle.machine_core.specs.Shown.{shown}
use Rattle.init_core.specs.declared.running.Profile.{Profile}
use Rattle.init_core.specs.declared.running.Progress.{Progress}
use Rattle.init_core.specs.declared.running.Progress.TheVariants.{GoesOn}
use Rattle.init_core.specs.declared.running.Running.{Running}
use Rattle.init_core.specs.declared.running.Stage.{Stage}
use Rattle.init_core.specs.declared.running.Stage.TheVariants.{Admitted, Named, Selected, Wanting}
use Rattle.init_core.specs.Choosing.{IsChosenByVolumes}
use Rattle.init_core.specs.Extents.{ExtentsFollow}
use Rattle.init_core.specs.Running.{IsGood, IsReady, config_of, lines_told, path_told, runs_after, shown_running}
use Rattle.init_core.specs.Turning.{around_in}

-- the job that goes on is at its place, and one that is over holds no name
pub record IsOn (c : Config) (holds : List Hold) (job : ℕ) (r : Running) : Type 0 where
  pub same : r.job ≡ job
  pub ready : IsReady c holds r

abbrev pub IsLeft : Config → List Hold → ℕ → Option Running → Type 0
IsLeft c holds job None = HoldsNone holds job
IsLeft c holds job (Some r) = IsOn c holds job r

-- a job that is answered is told of with its answer
abbrev pub IsToldOnce : Stage → Progress → Type 0
IsToldOnce (Named job) (GoesOn r from) = ⊥
IsToldOnce stage came = Unit {0}

-- what stays as it was in the queue, and of the holds of other jobs
pub record LeavesRest {Q : Type 0} (queue_of : Q → RecordQueue) (job : ℕ) (old new : Parts Q) : Type 0 where
  pub waiting : (queue_of new.queue).waiting ≡ (queue_of old.queue).waiting
  pub others : (other : ℕ) → other ≢ job → HoldsNone old.names other → HoldsNone new.names other

-- A case of the table, but for what is open in records; what the case leaves open is as the volumes decide it; a risk is explained as the case says; the
-- lines are few; what the next event goes by holds again; and the extents of all volumes follow.
pub record Went {Q : Type 0} (queue_of : Q → RecordQueue) (c : Config) (old : Parts Q) (r : Running) (new : Parts Q) (came : Progress) : Type 0 where
  pub middle : Shared
  pub goes : world.GoesOn c (shown queue_of old) (shown_running c (queue_of old.queue) r) (shown_running c (queue_of old.queue) r).stage (lines_told came) middle
      (option_map (shown_running c (queue_of new.queue)) (runs_after came))
  pub reopened : Reopened c.layout middle (shown queue_of new)
  pub chosen : IsChosenByVolumes c old.store old.date (choice_of_going c (shown queue_of old) (shown_running c (queue_of old.queue) r)
      (shown_running c (queue_of old.queue) r).stage (lines_told came) middle
      (option_map (shown_running c (queue_of new.queue)) (runs_after came)) goes)
  pub explained : path_told came ≡ world.explained_by c (shown queue_of old) (shown_running c (queue_of old.queue) r)
      (shown_running c (queue_of old.queue) r).stage (lines_told came) middle
      (option_map (shown_running c (queue_of new.queue)) (runs_after came)) goes
  pub few : length (lines_told came) ≤ suc (suc (length r.walk.course.own.dds))
  pub once : IsToldOnce r.stage came
  pub good : IsGood queue_of c new
  pub left : IsLeft c new.names r.job (runs_after came)
  pub extents : ExtentsFollow old.store new.store
  pub rest : LeavesRest queue_of r.job old new

-- The same under the configuration that the profile and the queue's records have.
abbrev pub WentUnder : {Q : Type 0} → (Q → RecordQueue) → Profile → Parts Q → Running → Parts Q → Progress → Type 0
WentUnder queue_of profile old r new came = Went queue_of (config_of profile (queue_of old.queue).layout) old r new came

-- A turn of a job in its place, under whichever configuration holds of the parts: it went on, and the lines that it wrote begin there.
abbrev pub WentOnInPlace : {Q : Type 0} → (Q → RecordQueue) → ℕ → Parts Q → Walk → Stage → Parts Q → Walk → Stage → ℕ → Type 0
WentOnInPlace queue_of job old walk before new walk_now after from = (c : Config) → IsGood queue_of c old →
    Went queue_of c old (record { job = job; walk = walk; stage = before }) new (GoesOn (record { job = job; walk = walk_now; stage = after }) from)

-- A turn of an admitted job in its place: it went on, and the lines that it wrote begin there; or its END is due, and nothing has changed.
abbrev pub ActsInPlace : {Q : Type 0} → (Q → RecordQueue) → Profile → Parts Q → ℕ → AdmittedJob → Walk → Parts Q → Walk → Option ℕ → Type 0
ActsInPlace queue_of profile old job a before new after (Some from) =
    Went queue_of (config_of profile (queue_of old.queue).layout) old (record { job = job; walk = before; stage = Admitted a }) new
    (GoesOn (record { job = job; walk = after; stage = Admitted a }) from)
ActsInPlace queue_of profile old job a before new after None = (new ≡ old) × (after ≡ before)
    × JobEnds (around_in profile old.units job a (has_cancel old.cancels job) old.store) (named_of a).plan (seen job (world_store_of old.store)) before

-- A job that may leave its place by its turn: it is to be read or to be admitted, or its END is due; it does not wait for its names.
abbrev pub MayLeaveAt : {Q : Type 0} → Profile → Parts Q → ℕ → Walk → Stage → Type 0
MayLeaveAt profile p job walk (Selected first) = Unit {0}
MayLeaveAt profile p job walk (Wanting plan wants) = ⊥
MayLeaveAt profile p job walk (Named named) = Unit {0}
MayLeaveAt profile p job walk (Admitted a) =
    JobEnds (around_in profile p.units job a (has_cancel p.cancels job) p.store) (named_of a).plan (seen job (world_store_of p.store)) walk

abbrev pub MayLeave : {Q : Type 0} → Profile → Parts Q → Running → Type 0
MayLeave profile p r = MayLeaveAt profile p r.job r.walk r.stage

-- A turn of a job in its place: so it went on; or nothing has changed, and it may leave its place.
abbrev pub WentInPlace : {Q : Type 0} → (Q → RecordQueue) → Profile → Parts Q → Running → Parts Q → Running → Option ℕ → Type 0
WentInPlace queue_of profile old before new after (Some from) =
    Went queue_of (config_of profile (queue_of old.queue).layout) old before new (GoesOn after from)
WentInPlace queue_of profile old before new after None = (new ≡ old) × (after ≡ before) × MayLeave profile old before
