use Rattle.std.proofs.Common.{◌≡◌, ap, arith, map, sym}
use Rattle.cb_queue.specs.RecordQueues.{RecordQueue}
use Rattle.queue_core.specs.declared.queue.Queued.{Queued}
use Rattle.sched_core.proofs.Opened.{begun, empty_can}
use Rattle.sched_core.proofs.system.System.new.Goals as goal

pub open_queue-requires-clause-waiting : goal.open_queue-requires-clause-waiting
open_queue-requires-clause-waiting g c = ap (λ (q : RecordQueue). map (λ (x : Queued). x.job) q.waiting) (sym c.requires.empty)

pub open_queue-requires-clause-begins : goal.open_queue-requires-clause-begins
open_queue-requires-clause-begins g c = empty_can (g.Q.RecordStore.queue c.args.queue) c.requires.empty

pub returns-in-Ok-clause-started : goal.returns-in-Ok-clause-started
returns-in-Ok-clause-started g c = λ config configured apart.
    begun config c.args.refuses c.args.most_views c.args.explains (g.Q.RecordStore.queue c.args.queue) c.requires.empty _
    (c.in-Ok.ensures.opened config configured apart)
