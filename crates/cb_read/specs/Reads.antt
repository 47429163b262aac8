-- A job that is read from its records. (This profile)
use Rattle.std.specs.Prelude.{◌≡◌, ℕ, List, ◌∷◌, Some, Result, Ok, Err}
use Rattle.jcl_plan.specs.declared.plan.JobPlan.{JobPlan}
use Rattle.cb_meaning.specs.Spelled.{Denotes}
use Rattle.cb_meaning.specs.Walks.{first_fault}
use Rattle.cb_queue.specs.RecordQueues.{RecordQueue, shown}
use Rattle.cb_read.specs.declared.read.ReadFault.{ReadFault}
use Rattle.cb_read.specs.declared.read.ReadFault.TheVariants.{Broken, Memory}

-- The plan is the one that the records denote, and the fault is that which strict reading tells first. Want of memory says nothing.
abbrev pub ReadsJob : RecordQueue → ℕ → ℕ → ℕ → Result JobPlan ReadFault → Type 0
ReadsJob q units job first (Ok plan) = (behind : List ℕ) × Denotes q.layout units (shown q) job (first ∷ behind) plan
ReadsJob q units job first (Err (Broken fault)) = first_fault q.layout units (shown q) job first ≡ Some fault
ReadsJob q units job first (Err Memory) = Unit {0}
