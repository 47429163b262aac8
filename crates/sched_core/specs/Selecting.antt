-- An initiator without a job takes the one that is selected next, with its listing.
use Rattle.std.specs.Prelude.{◌≡◌, ℕ, List, [], ◌∷◌, ◌++◌, Some, None, slice_get, slice_set}
use Rattle.cb_queue.specs.RecordQueues.{RecordQueue}
use Rattle.jcl_meaning.specs.Solo.{nothing_own}
use Rattle.jcl_plan.specs.declared.entry.Entry.{Entry}
use Rattle.jcl_plan.specs.declared.entry.JobLine.{JobLine}
use Rattle.jcl_plan.specs.declared.entry.JobLine.TheVariants as line
use Rattle.queue_core.specs.declared.queue.Queued.{Queued}
use Rattle.turn_core.specs.declared.todo.Todo.TheVariants as todo
use Rattle.world_meaning.specs.Worlds.{of_job}
use Rattle.queued_job.specs.Backlogs.{IsListingOf}
use Rattle.queued_job.specs.Listed.{but_job, but_listing}
use Rattle.queued_job.specs.Selecting.{SelectsOf}
use Rattle.queued_job.specs.declared.backlog.Listing.{Listing}
use Rattle.init_core.specs.declared.running.Running.{Running}
use Rattle.init_core.specs.declared.running.Stage.TheVariants as stage
use Rattle.sched_core.specs.declared.state.Initiator.{Initiator}

-- a selected job, with the lines of its listing so far
abbrev pub selected_as : Queued → List JobLine → Running
selected_as q lines = record {
  job = q.job;
  walk = record { todo = todo.Start 0; course = record { own = nothing_own; lines = lines } };
  stage = stage.Selected q.jct;
}

-- an initiator has no job
abbrev pub IsIdleAt : List Initiator → ℕ → Type 0
IsIdleAt initiators place = (x : Initiator) × (slice_get initiators place ≡ Some x) × (x.running ≡ None)

abbrev pub queue_without : RecordQueue → ℕ → RecordQueue
queue_without q job = record q { waiting = but_job job q.waiting }

-- No job of the classes waits, and all stays; or the first of the first class that has one leaves the queue for the initiator, with one line more.
pub data Seats (queue : RecordQueue) (backlog : List Listing) (initiators : List Initiator) (place : ℕ)
    (queue_now : RecordQueue) (backlog_now : List Listing) (after : List Initiator) (lines : List Entry) : Type 0 where
  nobody : (x : Initiator) → slice_get initiators place ≡ Some x → SelectsOf queue.waiting x.classes None → lines ≡ [] →
      queue_now ≡ queue → backlog_now ≡ backlog → after ≡ initiators → Seats queue backlog initiators place queue_now backlog_now after lines
  seated : (x : Initiator) (q : Queued) (l : Listing) → slice_get initiators place ≡ Some x → SelectsOf queue.waiting x.classes (Some q) →
      IsListingOf backlog q.job l → lines ≡ of_job q.job (line.Selected x.number ∷ []) → queue_now ≡ queue_without queue q.job →
      backlog_now ≡ but_listing q.job backlog →
      after ≡ slice_set initiators place (record x { running = Some (selected_as q (l.lines ++ line.Selected x.number ∷ [])) }) →
      Seats queue backlog initiators place queue_now backlog_now after lines
