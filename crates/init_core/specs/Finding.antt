-- What a job's records say, and the names that it then wants.
use Rattle.std.specs.Prelude.{◌≡◌, ℕ, List, ◌∷◌, Some}
use Rattle.cb_meaning.specs.Spelled.{Denotes}
use Rattle.cb_meaning.specs.Walks.{first_fault}
use Rattle.cb_queue.specs.RecordQueues.{RecordQueue, shown}
use Rattle.enq_core.specs.declared.table.Want.{Want}
use Rattle.jcl_plan.specs.declared.plan.JobPlan.{JobPlan}
use Rattle.world_meaning.specs.Holdings.{wants_of}
use Rattle.init_core.specs.declared.read.Found.{Found}
use Rattle.init_core.specs.declared.read.Found.TheVariants.{Broken, Job}

-- the records denote the plan, and these are its wants
pub record IsDenoted (q : RecordQueue) (units job first : ℕ) (plan : JobPlan) (wants : List Want) : Type 0 where
  pub behind : List ℕ
  pub denotes : Denotes q.layout units (shown q) job (first ∷ behind) plan
  pub wanted : wants ≡ wants_of plan

abbrev pub IsFound : RecordQueue → ℕ → ℕ → ℕ → Found → Type 0
IsFound q units job first (Broken fault) = first_fault q.layout units (shown q) job first ≡ Some fault
IsFound q units job first (Job plan wants) = IsDenoted q units job first plan wants
