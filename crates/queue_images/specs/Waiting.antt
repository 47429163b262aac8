-- The jobs that were kept wait in their queue. (This profile)
use Rattle.std.specs.Prelude.{◌≡◌, ◌≢◌, ◌<◌, ◌≤◌, ℕ, List, [], ◌∷◌, All, map, slice_index_or, if◌then◌else◌, nat_le}
use Rattle.std.specs.List.{Contains}
use Rattle.cb_meaning.specs.Fields.{byte_at}
use Rattle.cb_queue.specs.RecordQueues.{AreInOrder, RecordQueue, owner_at, shown}
use Rattle.queue_core.specs.declared.queue.Queued.{Queued}
use Rattle.queue_images.specs.declared.image.WaitingJob.{WaitingJob}

-- a job with the class and the priority of its JCT
abbrev pub queued_in : RecordQueue → WaitingJob → Queued
queued_in q w = record { job = w.job; jct = w.jct; class = byte_at ((shown q).at w.jct) 9; priority = byte_at ((shown q).at w.jct) 10 }

-- its JCT is its own, and its class is A to O and its priority 0 to 13
pub record CanWait (q : RecordQueue) (w : WaitingJob) : Type 0 where
  pub job : w.job ≢ 0
  pub owner : owner_at q w.jct ≡ w.job
  pub class : (65 ≤ (queued_in q w).class) × ((queued_in q w).class ≤ 79)
  pub priority : (queued_in q w).priority ≤ 13

-- a job of these
abbrev pub IsOneOf : RecordQueue → List WaitingJob → Queued → Type 0
IsOneOf q jobs x = (w : WaitingJob) × Contains jobs w × (x ≡ queued_in q w)

-- These jobs wait and no others, in the order of their numbers, which are these.
pub record Wait (q : RecordQueue) (jobs : List WaitingJob) (ns : List ℕ) : Type 0 where
  pub each : All (λ w. Contains q.waiting (queued_in q w)) jobs
  pub others : All (IsOneOf q jobs) q.waiting
  pub in_order : AreInOrder q.waiting
  pub numbers : ns ≡ map (λ x. x.job) q.waiting

-- the greatest of numbers, 0 of none
abbrev pub greatest : List ℕ → ℕ
greatest [] = 0
greatest (n ∷ ns) = if nat_le n (greatest ns) then greatest ns else n

-- the JCT of each of these jobs by its number, and 0 for every other number
pub record AreJctsOf (jcts : List ℕ) (jobs : List WaitingJob) : Type 0 where
  pub others : (n : ℕ) → slice_index_or jcts n 0 ≢ 0 → Contains jobs (record { job = n; jct = slice_index_or jcts n 0 })
  pub each : All (λ w. slice_index_or jcts w.job 0 ≡ w.jct) jobs
