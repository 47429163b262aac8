use Rattle.std.proofs.Common.{◌≡◌, ◌+◌, All, length}
use Rattle.jcl_procs.specs.Remembering.{IsRemembered}
use Rattle.jcl_procs.proofs.Counting.{Holds}
use Rattle.jcl_procs.proofs.expansion.expand_to.Given as goal

abbrev pub invariant-loop-step : goal.invariant-loop-step
invariant-loop-step l =
    Holds l.library l.procedures l.most l.fn.steps l.place l.later.items l.expansion l.known.items
    × (l.place + length l.later.items ≡ length l.fn.steps) × All (IsRemembered l.library l.procedures) l.remembered.items

abbrev pub decreases-loop-step : goal.decreases-loop-step
decreases-loop-step l = length l.later.items
