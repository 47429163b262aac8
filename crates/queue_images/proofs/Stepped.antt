-- A plan that can be written where so many steps are allowed can be written where as many as it has are.
use Rattle.std.proofs.Common.{ℕ, ◌≤◌, length}
use Rattle.jcl_plan.specs.declared.plan.JobPlan.{JobPlan}
use Rattle.cb_meaning.specs.Writable.{IsWritable}

pub allows : (most more units : ℕ) (plan : JobPlan) → length plan.steps ≤ more → IsWritable most units plan → IsWritable more units plan
allows most more units plan few is = record {
  name = is.name;
  class = is.class;
  priority = is.priority;
  message_class = is.message_class;
  tests = is.tests;
  some_step = is.some_step;
  few_steps = few;
  steps = is.steps;
}
