use Rattle.std.proofs.Common.{◌≡◌, ◌+◌, length, take}
use Rattle.jcl_meaning.specs.Names.{wanted_by}
use Rattle.jcl_refs.specs.Plans.{most_names}
use Rattle.jcl_refs.proofs.plan.asks_for_few.Given as goal

abbrev pub invariant-loop-step : goal.invariant-loop-step
invariant-loop-step l = l.left + length (wanted_by (take l.step-index l.step-items)) ≡ most_names
