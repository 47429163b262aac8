use Rattle.std.proofs.Common.{◌≡◌, length}
use Rattle.view_core.specs.Same.{same_by_step}
use Rattle.view_core.proofs.same.same_by_step.Given as goal

-- what is left says what all says
abbrev pub invariant-loop-step : goal.invariant-loop-step
invariant-loop-step l = same_by_step l.rest l.a l.b ≡ same_by_step l.fn.later l.fn.a l.fn.b

abbrev pub decreases-loop-step : goal.decreases-loop-step
decreases-loop-step l = length l.rest
