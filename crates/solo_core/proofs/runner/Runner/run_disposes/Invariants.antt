use Rattle.std.proofs.Common.{◌+◌, take}
use Rattle.jcl_meaning.specs.Agendas.{disposes_from}
use Rattle.solo_core.specs.Runners.{Acts}
use Rattle.solo_core.proofs.runner.Runner.run_disposes.Given as goal
use Rattle.job_text.specs.Places.{step_at}

abbrev pub invariant-loop-i : goal.invariant-loop-i
invariant-loop-i g l = Acts (disposes_from (l.step + 1) 1 (take l.i (step_at (g.T.JobText.plan l.text).steps l.step).dds)) l.fn.self l.self
