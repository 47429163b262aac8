use Rattle.std.proofs.Common.{take}
use Rattle.std.specs.Prelude.{All}
use Rattle.queue_core.specs.Queues.{HasNoneOf}
use Rattle.queued_job.proofs.selecting.select.Given as goal

abbrev pub invariant-loop-class : goal.invariant-loop-class
invariant-loop-class g l = All (HasNoneOf (g.Q.RecordStore.queue l.queue).waiting) (take l.class-index l.classes)
