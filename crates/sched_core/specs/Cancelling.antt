-- A job is cancelled, where it waits or at its initiator.
use Rattle.std.specs.Prelude.{◌≡◌, ℕ, Bool, true, false, ◌==◌, List, [], ◌∷◌, Option, Some, None, slice_get, slice_set}
use Rattle.enq_core.specs.declared.table.Hold.{Hold}
use Rattle.cb_queue.specs.RecordQueues.{RecordQueue}
use Rattle.jcl_plan.specs.declared.entry.Entry.{Entry}
use Rattle.jcl_plan.specs.declared.entry.Entry.TheVariants as entry
use Rattle.world_meaning.specs.Cancels.{cancelled_lines}
use Rattle.world_meaning.specs.Worlds.{Config}
use Rattle.queued_job.specs.Cancelled.{with_job}
use Rattle.queued_job.specs.Listed.{but_listing}
use Rattle.queued_job.specs.declared.backlog.Listing.{Listing}
use Rattle.machine_core.specs.Released.{GivesBack, IsReleased}
use Rattle.machine_core.specs.declared.parts.Parts.{Parts}
use Rattle.init_core.specs.Running.{IsReady}
use Rattle.init_core.specs.declared.running.Running.{Running}
use Rattle.init_core.specs.declared.running.Stage.{Stage}
use Rattle.init_core.specs.declared.running.Stage.TheVariants.{Admitted, Named, Selected, Wanting}
use Rattle.sched_core.specs.Selecting.{queue_without}
use Rattle.sched_core.specs.declared.state.Initiator.{Initiator}

abbrev pub is_admitted : Stage → Bool
is_admitted (Selected first) = false
is_admitted (Wanting plan wants) = false
is_admitted (Named job) = false
is_admitted (Admitted job) = true

abbrev pub has_admitted : Option Running → Bool
has_admitted None = false
has_admitted (Some r) = is_admitted r.stage

abbrev pub has_job : Option Running → ℕ → Bool
has_job None job = false
has_job (Some r) job = r.job == job

-- the job gave back what it had
pub record GivesUp {Q : Type 0} (queue_of : Q → RecordQueue) (job : ℕ) (old new : Parts Q) : Type 0 where
  pub back : GivesBack queue_of job old new
  pub released : (c : Config) → c.layout ≡ (queue_of old.queue).layout → IsReleased queue_of c job old new

-- a job that waited is out of the queue, and gave back what it had
pub record LeavesQueue {Q : Type 0} (queue_of : Q → RecordQueue) (job : ℕ) (old : Parts Q) (backlog : List Listing) (new : Parts Q)
    (backlog_now : List Listing) : Type 0 where
  pub middle : Parts Q
  pub rest : middle ≡ record old { queue = middle.queue }
  pub queue : queue_of middle.queue ≡ queue_without (queue_of old.queue) job
  pub gives : GivesUp queue_of job middle new
  pub listings : backlog_now ≡ but_listing job backlog

-- an initiator has this job, which can go on
pub record RunsJob (holds : List Hold) (x : Initiator) (job : ℕ) : Type 0 where
  pub running : Running
  pub runs : x.running ≡ Some running
  pub same : running.job ≡ job
  pub config : Config
  pub ready : IsReady config holds running

-- a job that is not admitted leaves its initiator; the cancel of one that is waits for its next program line
pub data CancelsRunning {Q : Type 0} (queue_of : Q → RecordQueue) (job : ℕ) (old : Parts Q) (x : Initiator) (new : Parts Q) (y : Initiator)
    (lines : List Entry) : Type 0 where
  leaves : has_admitted x.running ≡ false → lines ≡ cancelled_lines job → GivesUp queue_of job old new → y ≡ record x { running = None } →
      CancelsRunning queue_of job old x new y lines
  is_noted : has_admitted x.running ≡ true → lines ≡ entry.Cancel job ∷ [] → new ≡ record old { cancels = with_job old.cancels job } → y ≡ x →
      CancelsRunning queue_of job old x new y lines

-- and so at a place
pub record CancelsAt {Q : Type 0} (queue_of : Q → RecordQueue) (job place : ℕ) (old : Parts Q) (initiators : List Initiator) (new : Parts Q)
    (after : List Initiator) (lines : List Entry) : Type 0 where
  pub it : Initiator
  pub at : slice_get initiators place ≡ Some it
  pub then : Initiator
  pub cancels : CancelsRunning queue_of job old it new then lines
  pub leaves : after ≡ slice_set initiators place then
