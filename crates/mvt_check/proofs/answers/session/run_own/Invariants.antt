use Rattle.mvt_check.proofs.Owning.{HasRun}
use Rattle.mvt_check.proofs.answers.session.run_own.Given as goal

abbrev pub invariant-loop-at : goal.invariant-loop-at
invariant-loop-at l = HasRun l.statements l.fn.from l.at l.fn.system l.system l.decks.items l.fn.by_job.items l.by_job.items
