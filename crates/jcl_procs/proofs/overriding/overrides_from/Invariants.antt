use Rattle.std.proofs.Common.{◌≡◌, length}
use Rattle.jcl_procs.specs.Overrides.{overrides_from}
use Rattle.jcl_procs.specs.StepDds.{IsPlace}
use Rattle.jcl_procs.proofs.overriding.overrides_from.Given as goal

abbrev pub invariant-loop-dd : goal.invariant-loop-dd
invariant-loop-dd l = (overrides_from l.initial.place l.initial.dds.items ≡ overrides_from l.place l.dds.items) × IsPlace l.place

abbrev pub decreases-loop-dd : goal.decreases-loop-dd
decreases-loop-dd l = length l.dds.items
