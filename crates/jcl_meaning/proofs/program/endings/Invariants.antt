use Rattle.std.proofs.Common.{◌≡◌, map, take}
use Rattle.jcl_meaning.specs.Programs.{ending_of}
use Rattle.jcl_meaning.proofs.program.endings.Given as goal

abbrev pub invariant-loop-step : goal.invariant-loop-step
invariant-loop-step l = l.outcomes ≡ map (λ step. ending_of l.programs step.program) (take l.step-index l.steps)
