-- A job that was read waits, and its records are written. (This profile)
use Rattle.std.specs.Prelude.{◌≡◌, ℕ, ◌≤◌, ◌<◌, [], ◌∷◌, ◌++◌, length, true, Result, Ok, Err, Some}
use Rattle.cb_meaning.specs.Needs.{records_needed}
use Rattle.cb_meaning.specs.Writable.{IsWritable}
use Rattle.cb_queue.specs.RecordQueues.{RecordQueue, next_free, shown}
use Rattle.cb_chain.specs.Taking.{IsReady, TakesIf}
use Rattle.jcl_plan.specs.declared.plan.JobPlan.{JobPlan}
use Rattle.queue_core.specs.declared.queue.Queued.{Queued}
use Rattle.world_meaning.specs.Readings.{IsWritten}
use Rattle.world_meaning.specs.Worlds.{Config}
use Rattle.queued_job.specs.declared.reading.EnterFault.{EnterFault}
use Rattle.queued_job.specs.declared.reading.EnterFault.TheVariants.{Full, Memory}

-- the job as it waits
abbrev pub queued_of : ℕ → JobPlan → ℕ → Queued
queued_of job plan first = record { job = job; jct = first; class = plan.class; priority = plan.priority }

abbrev pub with_queued : RecordQueue → Queued → RecordQueue
with_queued q queued = record q { waiting = q.waiting ++ queued ∷ [] }

-- the job waits with the record that is taken next, which is taken for it
pub record WaitsFirst (job : ℕ) (plan : JobPlan) (old new : RecordQueue) (first : ℕ) : Type 0 where
  pub next : next_free old ≡ Some first
  pub ready : IsReady old
  pub takes : TakesIf job true (with_queued old (queued_of job plan first)) new first

-- Its records are written as the world says, whatever else is configured, and it waits behind all others.
pub record Enters (job : ℕ) (plan : JobPlan) (old new : RecordQueue) (first : ℕ) : Type 0 where
  pub room : records_needed plan ≤ length old.free
  pub layout : new.layout ≡ old.layout
  pub waiting : new.waiting ≡ old.waiting ++ queued_of job plan first ∷ []
  pub written : (c : Config) → c.layout ≡ old.layout → IsWritable old.layout.most_steps (length c.units) plan →
      IsWritten c (shown old) (shown new) job plan first

-- the queue is full exactly where fewer records are free than the job takes; that and want of memory change nothing
abbrev pub IsEntered : ℕ → JobPlan → RecordQueue → RecordQueue → Result ℕ EnterFault → Type 0
IsEntered job plan old new (Ok first) = Enters job plan old new first
IsEntered job plan old new (Err Full) = (length old.free < records_needed plan) × (new ≡ old)
IsEntered job plan old new (Err Memory) = (records_needed plan ≤ length old.free) × (new ≡ old)
