use Rattle.std.proofs.Common.{◌≤◌, [], ◌∷◌, ap, arith, length, subst}
use Rattle.cb_meaning.specs.Needs.{records_needed}
use Rattle.cb_queue.specs.RecordQueues.{RecordQueue}
use Rattle.cb_chain.proofs.Stored.{ready_after}
use Rattle.queued_job.specs.Entering.{Enters, queued_of, with_queued}
use Rattle.queued_job.proofs.Entered.{enters, ready_queued}
use Rattle.queued_job.proofs.reading.enter_job.Goals as goal

pub write_from-requires-clause-ready : goal.write_from-requires-clause-ready
write_from-requires-clause-ready g c =
    let q = g.Q.RecordStore.queue c.make_room.new.self in
    let first = c.in-Ok-wait_with_first.first in
    let waits = c.in-Ok-wait_with_first.ensures.ok in
    let queued = queued_of c.args.job c.args.plan.now first in
    ready_after (first ∷ []) (with_queued q queued) (g.Q.RecordStore.queue c.wait_with_first.new.queue) (ready_queued q queued waits.ready) waits.takes.took

pub returns : goal.returns
returns g c =
    let old = g.Q.RecordStore.queue c.args.queue.now in
    let q = g.Q.RecordStore.queue c.make_room.new.self in
    let new = g.Q.RecordStore.queue c.write_from.new.store in
    let first = c.in-Ok-wait_with_first.first in
    let waits = c.in-Ok-wait_with_first.ensures.ok in
    let queued = queued_of c.args.job c.args.plan.now first in
    let same = c.make_room.ensures.same in
    let size = ap (λ (k : RecordQueue). length k.free) same in
    let room : records_needed c.args.plan.now ≤ length q.free = omega (arith, size, c.in-Some.ensures, c.free_count.ensures) in
    subst (λ k. Enters c.args.job c.args.plan.now k new first) same
    (enters c.args.job c.args.plan.now q first first waits.next room new
    (c.write_from.ensures.written (with_queued q queued) (ready_queued q queued waits.ready) waits.takes))
