use Rattle.std.proofs.Common.{replicate}
use Rattle.play_core.specs.Giving.{Leads}
use Rattle.play_core.proofs.replaying.repeat.Given as goal

abbrev pub invariant-loop-done : goal.invariant-loop-done
invariant-loop-done l = Leads l.fn.system (replicate l.done l.event) l.system
