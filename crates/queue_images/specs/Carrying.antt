-- Jobs that are carried over from an image into a queue of the second layout. (This profile)
use Rattle.std.specs.Prelude.{◌≡◌, ◌≢◌, ℕ, ◌≤◌, ◌==◌, true, false, List, [], ◌∷◌, ◌++◌, Some, None, Result, Ok, Err, length, map}
use Rattle.std.specs.List.{AllZip, list_any}
use Rattle.jcl_plan.specs.declared.plan.JobPlan.{JobPlan}
use Rattle.cb_meaning.specs.declared.layout.TheConstants.{LAYOUT_1, LAYOUT_2}
use Rattle.cb_meaning.specs.Spelled.{Denotes}
use Rattle.cb_queue.specs.RecordQueues.{RecordQueue, owner_at, shown}
use Rattle.cb_chain.specs.Written.{IsFresh, Written}
use Rattle.machine_meaning.specs.declared.machine.TheConstants.{MOST_JOBS}
use Rattle.queued_job.specs.Opening.{CanBegin}
use Rattle.queue_images.specs.declared.image.DroppedJob.{DroppedJob}
use Rattle.queue_images.specs.declared.image.TheConstants.{IMAGE_BYTES}
use Rattle.queue_images.specs.declared.image.WaitingJob.{WaitingJob}
use Rattle.queue_images.specs.declared.migrate.MigrateFault.{MigrateFault}
use Rattle.queue_images.specs.declared.migrate.MigrateFault.TheVariants.{Memory, Numbers, Size}
use Rattle.queue_images.specs.declared.migrate.Sorted.{Sorted}
use Rattle.queue_images.specs.Images.{are_job_numbers, dropped_of, fault_in, kept_of, records_in}
use Rattle.queue_images.specs.Waiting.{Wait, greatest}

-- a job of the image stands in a queue under the same number, and denotes the same plan
pub record IsCarried (image : List ℕ) (units : ℕ) (q : RecordQueue) (old new : WaitingJob) : Type 0 where
  pub job : new.job ≡ old.job
  pub plan : JobPlan
  pub before : List ℕ
  pub behind : List ℕ
  pub denoted : Denotes LAYOUT_1 units (records_in image) old.job (old.jct ∷ before) plan
  pub denotes : Denotes LAYOUT_2 units (shown q) new.job (new.jct ∷ behind) plan

-- The jobs of these that can be read are in the queue, each of whose records is one of theirs, as it is written anew; the others are told with their faults.
pub record AreCarried (image : List ℕ) (units : ℕ) (jobs : List WaitingJob) (q : RecordQueue) (stay : List WaitingJob) (go : List DroppedJob) : Type 0 where
  pub kept : AllZip (IsCarried image units q) (kept_of image units jobs) stay
  pub dropped : go ≡ dropped_of image units jobs
  pub layout : q.layout ≡ LAYOUT_2
  pub owned : (n : ℕ) → owner_at q n ≢ 0 → list_any (λ w. w.job == owner_at q n) stay ≡ true
  pub fresh : (n : ℕ) → owner_at q n ≢ 0 → IsFresh LAYOUT_2 ((shown q).at n)

-- so they are sorted into those that are kept and those that are dropped
abbrev pub AreSorted : List ℕ → ℕ → List WaitingJob → RecordQueue → Sorted → Type 0
AreSorted image units jobs q sorted = AreCarried image units jobs q sorted.kept.items sorted.dropped.items

-- and they wait there in the order of their numbers, so that a machine may begin with them
pub record AreWaiting (jobs : List WaitingJob) (q : RecordQueue) (stay : List WaitingJob) (ns : List ℕ) (last : ℕ) : Type 0 where
  pub wait : Wait q stay ns
  pub greatest : last ≡ greatest (map (λ w. w.job) jobs)
  pub begins : CanBegin q last
  pub few : last ≤ MOST_JOBS

-- one job: its first record, where it was written anew, or its fault
pub record IsWrittenAnew (image : List ℕ) (units : ℕ) (w : WaitingJob) (old new : RecordQueue) (first : ℕ) : Type 0 where
  pub faultless : fault_in image units w ≡ None
  pub plan : JobPlan
  pub before : List ℕ
  pub denoted : Denotes LAYOUT_1 units (records_in image) w.job (w.jct ∷ before) plan
  pub written : Written w.job plan old new first

abbrev pub CarriesOne : List ℕ → ℕ → WaitingJob → RecordQueue → RecordQueue → Result ℕ ℕ → Type 0
CarriesOne image units w old new (Ok first) = IsWrittenAnew image units w old new first
CarriesOne image units w old new (Err fault) = (fault_in image units w ≡ Some fault) × (new ≡ old)

-- what is told of one job is noted behind what was told of those before it
abbrev pub IsNoted : ℕ → Result ℕ ℕ → List WaitingJob → List WaitingJob → List DroppedJob → List DroppedJob → Type 0
IsNoted job (Ok first) stay more go gone = (more ≡ stay ++ record { job = job; jct = first } ∷ []) × (gone ≡ go)
IsNoted job (Err fault) stay more go gone = (more ≡ stay) × (gone ≡ go ++ record { job = job; fault = fault } ∷ [])

-- an image and a list that are not refused
abbrev pub IsTakenOver : List ℕ → List WaitingJob → Type 0
IsTakenOver image jobs = (length image ≡ IMAGE_BYTES) × (are_job_numbers (map (λ w. w.job) jobs) ≡ true)

-- M1: the image has another size; M2: a number is none of a job, or given twice; memory is missing last
abbrev pub IsRefused : List ℕ → List WaitingJob → MigrateFault → Type 0
IsRefused image jobs Size = length image ≢ IMAGE_BYTES
IsRefused image jobs Numbers = (length image ≡ IMAGE_BYTES) × (are_job_numbers (map (λ w. w.job) jobs) ≡ false)
IsRefused image jobs Memory = IsTakenOver image jobs
