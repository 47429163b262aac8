use Rattle.std.proofs.Common.{◌≡◌}
use Rattle.jcl_procs.proofs.Settled.{settled}
use Rattle.jcl_procs.proofs.expansion.settle_each.Given as goal

abbrev pub invariant-loop-dd : goal.invariant-loop-dd
invariant-loop-dd l = l.dds ≡ settled l.dd-index l.fn.dds
