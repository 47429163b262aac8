-- Jobs without tests.
use Rattle.std.specs.Prelude.{◌≡◌, [], All}
use Rattle.jcl_plan.specs.declared.plan.JobPlan.{JobPlan}

-- neither the JOB statement nor a step has one
pub record HasNoTests (plan : JobPlan) : Type 0 where
  pub of_job : plan.tests.items ≡ []
  pub of_steps : All (λ step. step.tests.items ≡ []) plan.steps
