-- The class of a job that can be written.
use Rattle.std.proofs.Common.{ℕ, ◌≤◌}
use Rattle.std.proofs.lemmas.Bool.{and_parts, leb-true}
use Rattle.jcl_plan.specs.declared.plan.JobPlan.{JobPlan}
use Rattle.cb_meaning.specs.Writable.{IsWritable}

pub class_within : (most units : ℕ) (plan : JobPlan) → IsWritable most units plan → (65 ≤ plan.class) × (plan.class ≤ 79)
class_within most units plan h = let parts = and_parts _ _ h.class in (leb-true 65 plan.class parts.0, leb-true plan.class 79 parts.1)
