-- A job that a deck denotes takes the next number, and waits; or there is no room for it.
use Rattle.std.specs.Prelude.{◌≡◌, ℕ, ◌<◌, List, [], ◌∷◌, ◌++◌, length, Ok}
use Rattle.cb_meaning.specs.Needs.{records_needed}
use Rattle.cb_queue.specs.RecordQueues.{RecordQueue}
use Rattle.jcl_plan.specs.declared.entry.Entry.{Entry}
use Rattle.jcl_plan.specs.declared.entry.JobLine.TheVariants as line
use Rattle.jcl_plan.specs.declared.fault.Cause.TheVariants.{Q}
use Rattle.jcl_plan.specs.declared.fault.QueueFault.TheVariants.{Full}
use Rattle.jcl_plan.specs.declared.plan.JobPlan.{JobPlan}
use Rattle.world_meaning.specs.Readings.{Denoting, Reads, read_line}
use Rattle.world_meaning.specs.Worlds.{World, of_job}
use Rattle.queued_job.specs.Entering.{Enters}
use Rattle.queued_job.specs.declared.backlog.Listing.{Listing}

abbrev pub listing_of : ℕ → JobPlan → Listing
listing_of job plan = record { job = job; lines = read_line plan ∷ [] }

-- it waits with its first line, and its records are written; or nothing changes, since fewer records are free than it takes
pub data TakesIn (job : ℕ) (plan : JobPlan) (queue : RecordQueue) (backlog : List Listing) (queue_now : RecordQueue) (backlog_now : List Listing)
    (lines : List Entry) : Type 0 where
  enters : (first : ℕ) → Enters job plan queue queue_now first → backlog_now ≡ backlog ++ listing_of job plan ∷ [] →
      lines ≡ of_job job (read_line plan ∷ []) → TakesIn job plan queue backlog queue_now backlog_now lines
  is_full : length queue.free < records_needed plan → queue_now ≡ queue → backlog_now ≡ backlog →
      lines ≡ of_job job (line.Rejected (Q Full) ∷ []) → TakesIn job plan queue backlog queue_now backlog_now lines

-- any deck that denotes the plan is read so
abbrev pub ReadsPlan : World → JobPlan → List Entry → World → Type 0
ReadsPlan old plan lines new = (job_of : Denoting) (deck : List (List ℕ)) → job_of deck ≡ Ok plan → Reads job_of old deck lines new
