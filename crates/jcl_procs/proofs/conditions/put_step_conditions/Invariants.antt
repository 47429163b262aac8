use Rattle.std.proofs.Common.{◌≡◌, drop}
use Rattle.jcl_procs.specs.Overrides.{with_step_conditions}
use Rattle.jcl_procs.proofs.conditions.put_step_conditions.Given as goal

abbrev pub invariant-loop-own : goal.invariant-loop-own
invariant-loop-own l = with_step_conditions l.fn.steps l.conditions ≡ with_step_conditions l.steps (drop l.own-index l.conditions)
