use Rattle.std.proofs.Common.{◌<◌, ◌+◌, ℕ}
use Rattle.std.specs.Prelude.{slice_index_or}
use Rattle.jcl_plan.specs.declared.plan.StepPlan.{StepPlan}
use Rattle.path_core.specs.KeptSets.{StepAtMostKeeps}
use Rattle.path_core.proofs.keeping.at_most_keeps.Given as goal

abbrev pub invariant-loop-i : goal.invariant-loop-i
invariant-loop-i g l = (k : ℕ) (step : StepPlan) → k < l.i → StepAtMostKeeps l.meanings (g.S.JobStore.seen l.job l.store) (k + 1) (slice_index_or l.plan.steps k step).dds
