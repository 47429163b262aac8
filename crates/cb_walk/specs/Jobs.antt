-- The walk over the records of a job. (This profile)
use Rattle.std.specs.Prelude.{◌≡◌, ℕ, Option}
use Rattle.cb_meaning.specs.Walks.{first_fault}
use Rattle.cb_queue.specs.RecordQueues.{RecordQueue, shown}

-- the fault of the job whose JCT has this number, or none
abbrev pub Tells : RecordQueue → ℕ → ℕ → ℕ → Option ℕ → Type 0
Tells q units job n fault = fault ≡ first_fault q.layout units (shown q) job n
