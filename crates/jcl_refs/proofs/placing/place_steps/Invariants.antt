use Rattle.std.proofs.Common.{◌≡◌, drop}
use Rattle.jcl_refs.specs.Planning.{counts_in, planned_counts}
use Rattle.jcl_refs.specs.Plans.{all_of, units_of_step, units_of_steps}
use Rattle.jcl_refs.proofs.Placed.{from_here}
use Rattle.jcl_refs.proofs.placing.place_steps.Given as goal

abbrev pub invariant-loop-n : goal.invariant-loop-n
invariant-loop-n l = record {
  placed : from_here (units_of_step l.units) l.n l.steps l.plans ≡ all_of (units_of_steps l.units l.steps l.fn.plans);
  counts : counts_in (drop l.n l.steps) ≡ planned_counts (drop l.n l.plans);
}
