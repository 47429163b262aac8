-- A job that is read from its records. (This profile)
use Rattle.std.specs.Prelude.{◌≡◌, ℕ, List, ◌∷◌, Some}
use Rattle.cb_meaning.specs.Spelled.{Denotes}
use Rattle.cb_meaning.specs.Walks.{first_fault}
use Rattle.cb_queue.specs.RecordQueues.{RecordQueue, shown}
use Rattle.queued_job.specs.declared.read.Read.{Read}
use Rattle.queued_job.specs.declared.read.Read.TheVariants.{Broken, Plan}

-- the plan is one that the records denote, and the fault is that which strict reading tells first
abbrev pub IsRead : RecordQueue → ℕ → ℕ → ℕ → Read → Type 0
IsRead q units job first (Broken fault) = first_fault q.layout units (shown q) job first ≡ Some fault
IsRead q units job first (Plan plan) = (behind : List ℕ) × Denotes q.layout units (shown q) job (first ∷ behind) plan
