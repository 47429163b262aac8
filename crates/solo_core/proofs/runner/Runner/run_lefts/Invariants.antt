use Rattle.std.proofs.Common.{take}
use Rattle.jcl_meaning.specs.Agendas.{lefts_from}
use Rattle.solo_core.specs.Runners.{Acts}
use Rattle.solo_core.proofs.runner.Runner.run_lefts.Given as goal

abbrev pub invariant-loop-i : goal.invariant-loop-i
invariant-loop-i g l = Acts (lefts_from 1 (take l.i (g.T.JobText.plan l.text).steps)) l.fn.self l.self
