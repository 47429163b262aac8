use Rattle.std.proofs.Common.{take}
use Rattle.jcl_meaning.specs.Agendas.{steps_from}
use Rattle.jcl_meaning.specs.Programs.{moves_of}
use Rattle.solo_core.specs.Runners.{Acts}
use Rattle.solo_core.proofs.runner.Runner.run_steps.Given as goal

abbrev pub invariant-loop-i : goal.invariant-loop-i
invariant-loop-i g l = Acts (steps_from (moves_of l.programs) 1 (take l.i (g.T.JobText.plan l.text).steps)) l.fn.self l.self
