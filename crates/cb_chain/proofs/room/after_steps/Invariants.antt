use Rattle.std.proofs.Common.{◌≡◌, ◌+◌, take}
use Rattle.std.specs.List.{sum_by}
use Rattle.cb_meaning.specs.Needs.{records_of_step}
use Rattle.cb_chain.proofs.room.after_steps.Given as goal

abbrev pub invariant-loop-step : goal.invariant-loop-step
invariant-loop-step l = l.left + sum_by records_of_step (take l.step-index l.steps) ≡ l.free
