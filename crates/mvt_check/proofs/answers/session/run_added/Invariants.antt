use Rattle.std.proofs.Common.{map, take}
use Rattle.play_core.specs.Given.{event_of}
use Rattle.mvt_check.specs.Telling.{Tells}
use Rattle.mvt_check.proofs.answers.session.run_added.Given as goal

abbrev pub invariant-loop-next : goal.invariant-loop-next
invariant-loop-next l = Tells l.fn.system l.fn.by_job.items (map event_of (take l.next-index l.given)) l.system l.by_job.items l.number
