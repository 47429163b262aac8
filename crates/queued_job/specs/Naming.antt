-- What a job wants, and what holding it leaves of the holds of other jobs. (This profile's rule)
use Rattle.std.specs.Prelude.{◌≢◌, ℕ, List, ◌++◌}
use Rattle.enq_core.specs.declared.table.Hold.{Hold}
use Rattle.enq_core.specs.declared.table.Want.{Want}
use Rattle.enq_core.specs.Holds.{AreWants, HoldsNone, holds_of, without_job}
use Rattle.jcl_meaning.specs.declared.names.HeldName.{HeldName}
use Rattle.jcl_plan.specs.declared.plan.JobPlan.{JobPlan}
use Rattle.world_meaning.specs.Holdings.{wants_of}

abbrev pub want_of : HeldName → Want
want_of held = record { name = held.name; exclusive = held.exclusive }

-- a job's wants stand in byte order, each once
abbrev pub WantsAreInOrder : Type 0
WantsAreInOrder = (plan : JobPlan) → AreWants (wants_of plan)

-- names held for one job are none of another's
abbrev pub HoldingLeavesOthers : Type 0
HoldingLeavesOthers = (holds : List Hold) (job other : ℕ) (wants : List Want) → other ≢ job → HoldsNone holds other →
    HoldsNone (holds ++ holds_of job wants) other

-- a job whose names are given free holds none
abbrev pub ReleasingLeavesNone : Type 0
ReleasingLeavesNone = (holds : List Hold) (job : ℕ) → HoldsNone (without_job job holds) job

-- a job that holds none still holds none
abbrev pub ReleasingLeavesOthers : Type 0
ReleasingLeavesOthers = (holds : List Hold) (job other : ℕ) → HoldsNone holds other → HoldsNone (without_job job holds) other
