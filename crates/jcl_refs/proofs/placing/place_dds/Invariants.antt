use Rattle.std.proofs.Common.{◌≡◌}
use Rattle.jcl_refs.specs.Plans.{all_of, units_of_dds}
use Rattle.jcl_refs.proofs.Placed.{change_dd, from_here}
use Rattle.jcl_refs.proofs.placing.place_dds.Given as goal

abbrev pub invariant-loop-n : goal.invariant-loop-n
invariant-loop-n l = from_here (change_dd l.units) l.n l.cards l.dds ≡ all_of (units_of_dds l.units l.cards l.fn.dds)
