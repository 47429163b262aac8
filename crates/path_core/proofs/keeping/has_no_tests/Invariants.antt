use Rattle.std.proofs.Common.{◌<◌, ◌≡◌, ℕ, []}
use Rattle.std.specs.Prelude.{slice_index_or}
use Rattle.jcl_plan.specs.declared.plan.StepPlan.{StepPlan}
use Rattle.path_core.proofs.keeping.has_no_tests.Given as goal

abbrev pub invariant-loop-step : goal.invariant-loop-step
invariant-loop-step l = (k : ℕ) (step : StepPlan) → k < l.step-index → (slice_index_or l.plan.steps k step).tests.items ≡ []
