use Rattle.std.proofs.Common.{◌≡◌, ◌++◌, drop, map}
use Rattle.jcl_refs.specs.Planning.{has_many_dd_names}
use Rattle.jcl_refs.proofs.plan.many_dd_names.Given as goal

abbrev pub invariant-loop-step : goal.invariant-loop-step
invariant-loop-step l = l.many.items ++ map has_many_dd_names (drop l.step-index l.steps) ≡ map has_many_dd_names l.steps
