use Rattle.std.proofs.Common.{◌≡◌}
use Rattle.jcl_procs.proofs.Conditioned.{changed}
use Rattle.jcl_refs.specs.Plans.{with_dds_left}
use Rattle.jcl_refs.proofs.plan.leave_each.Given as goal

abbrev pub invariant-loop-step : goal.invariant-loop-step
invariant-loop-step l = l.steps ≡ changed with_dds_left l.step-index l.fn.steps
