use Rattle.std.proofs.Common.{take}
use Rattle.jcl_meaning.specs.Agendas.{moves_from}
use Rattle.solo_core.specs.Runners.{Acts}
use Rattle.solo_core.proofs.runner.Runner.run_moves.Given as goal
use Rattle.job_text.specs.Places.{step_at}

abbrev pub invariant-loop-wants : goal.invariant-loop-wants
invariant-loop-wants g l = Acts (moves_from (step_at (g.T.JobText.plan l.text).steps l.step) (take l.wants-index l.moves)) l.fn.self l.self
