use Rattle.std.proofs.Common.{◌≡◌}
use Rattle.jcl_procs.specs.Overrides.{with_this}
use Rattle.jcl_procs.proofs.Conditioned.{changed}
use Rattle.jcl_procs.proofs.conditions.put_condition.Given as goal

abbrev pub invariant-loop-step : goal.invariant-loop-step
invariant-loop-step l = l.steps ≡ changed (with_this l.fn.condition) l.step-index l.fn.steps
