use Rattle.std.proofs.Common.{replicate}
use Rattle.mvt_check.specs.Telling.{Tells}
use Rattle.mvt_check.proofs.answers.session.repeat.Given as goal

abbrev pub invariant-loop-done : goal.invariant-loop-done
invariant-loop-done l = Tells l.fn.system l.fn.by_job.items (replicate l.done l.event) l.system l.by_job.items l.number
