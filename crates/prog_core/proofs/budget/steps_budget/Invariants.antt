use Rattle.std.proofs.Common.{◌≡◌, take}
use Rattle.std.specs.Prelude.{sum_by}
use Rattle.jcl_meaning.specs.Agendas.{passing, step_budget}
use Rattle.prog_core.proofs.budget.steps_budget.Given as goal

abbrev pub invariant-loop-step : goal.invariant-loop-step
invariant-loop-step l = (l.lines ≡ sum_by (step_budget l.programs) (take l.step-index l.steps)) × (l.lefts ≡ sum_by passing (take l.step-index l.steps))
