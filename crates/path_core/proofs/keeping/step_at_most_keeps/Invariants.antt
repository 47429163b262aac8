use Rattle.std.proofs.Common.{◌<◌, ◌+◌, ℕ}
use Rattle.std.specs.Prelude.{slice_index_or}
use Rattle.jcl_plan.specs.declared.plan.DdPlan.{DdPlan}
use Rattle.path_core.specs.KeptSets.{IsAtMostKept}
use Rattle.path_core.proofs.keeping.step_at_most_keeps.Given as goal

abbrev pub invariant-loop-i : goal.invariant-loop-i
invariant-loop-i g l = (k : ℕ) (dd : DdPlan) → k < l.i → IsAtMostKept l.meanings (g.S.JobStore.seen l.job l.store) l.n (k + 1) (slice_index_or l.step.dds k dd).kind
