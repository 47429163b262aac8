use Rattle.std.proofs.Common.{◌≢◌, All, refl, subst, sym}
use Rattle.cb_queue.specs.RecordQueues.{RecordQueue}
use Rattle.sched_core.proofs.Unqueued.{taken_out}
use Rattle.sched_core.proofs.cancelling.cancel_waiting.Goals as goal

pub returns-clause-left : goal.returns-clause-left
returns-clause-left g c = record {
  middle = record c.args.parts.now { queue = c.remove.new.self };
  rest = refl;
  queue = c.remove.ensures.left;
  gives = record { back = c.release_unnamed.ensures.back; released = c.release_unnamed.ensures.released };
  listings = c.take.ensures.left;
}

pub release_unnamed-requires-clause-unqueued : goal.release_unnamed-requires-clause-unqueued
release_unnamed-requires-clause-unqueued g c =
    subst (λ (q : RecordQueue). All (λ x. x.job ≢ c.args.job) q.waiting) (sym c.remove.ensures.left)
    (taken_out c.args.job (g.Q.RecordStore.queue c.args.parts.now.queue).waiting)
