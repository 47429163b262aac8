use Rattle.std.proofs.Common.{◌≢◌, ◌<◌, ◌∙◌, [], ◌∷◌, All, ap, subst, sym, true}
use Rattle.std.specs.Prelude.{is_some}
use Rattle.cb_meaning.specs.declared.layout.Layout.{Layout}
use Rattle.cb_meaning.specs.Writable.{IsWritable}
use Rattle.cb_queue.specs.RecordQueues.{RecordQueue, given_back, record_at}
use Rattle.cb_chain.specs.Taking.{TakesIf}
use Rattle.cb_chain.proofs.Stored.{ready_after}
use Rattle.queued_job.specs.Entering.{queued_of, with_queued}
use Rattle.queued_job.proofs.Entered.{put_back, takes_queued, unqueued}
use Rattle.queued_job.proofs.reading.wait_with_first.Goals as goal

pub enter_waiting-requires-clause-ready : goal.enter_waiting-requires-clause-ready
enter_waiting-requires-clause-ready g c =
    let took = c.take_first-first in
    ready_after (took.result ∷ []) (g.Q.RecordStore.queue c.args.queue.now) (g.Q.RecordStore.queue took.new.store) took.ensures.ready took.ensures.takes.took

pub enter_waiting-requires-clause-later : goal.enter_waiting-requires-clause-later
enter_waiting-requires-clause-later g c =
    subst (All (λ x. x.job < c.args.job)) (sym c.take_first-first.ensures.takes.took.waiting) c.requires.later

pub enter_waiting-requires-clause-writable : goal.enter_waiting-requires-clause-writable
enter_waiting-requires-clause-writable g c = (
  c.requires.writable.0,
  subst (λ (l : Layout). IsWritable l.most_steps c.requires.writable.0 c.args.plan.now) (sym c.take_first-first.ensures.takes.took.layout) c.requires.writable.1,
)

pub returns-in-Ok-clause-ok : goal.returns-in-Ok-clause-ok
returns-in-Ok-clause-ok g c =
    let took = c.take_first-first in
    let old = g.Q.RecordStore.queue c.args.queue.now in
    let waits = queued_of c.args.job c.args.plan.now took.result in
    record {
      next = sym took.ensures.next;
      ready = took.ensures.ready;
      takes = subst (λ q. TakesIf c.args.job true (with_queued old waits) q took.result) (sym c.in-Ok.ensures.ok)
          (takes_queued c.args.job old (g.Q.RecordStore.queue took.new.store) took.result waits took.ensures.takes);
    }

pub give_back-requires-clause-used : goal.give_back-requires-clause-used
give_back-requires-clause-used g c =
    let took = c.take_first-first in
    ap is_some (ap (λ q. record_at q took.result) c.in-Err.ensures.err ∙ took.ensures.takes.is_held.zeros)

pub give_back-requires-clause-unqueued : goal.give_back-requires-clause-unqueued
give_back-requires-clause-unqueued g c =
    let took = c.take_first-first in
    let old = g.Q.RecordStore.queue c.args.queue.now in
    let is = c.in-Err.ensures.err in
    subst (λ (q : RecordQueue). All (λ x. x.jct ≢ took.result) q.waiting) (sym is)
    (subst (All (λ x. x.jct ≢ took.result)) (sym took.ensures.takes.took.waiting) (unqueued old c.layout-layout.ensures.sound took.result took.ensures.next))

pub returns-in-Err-clause-err : goal.returns-in-Err-clause-err
returns-in-Err-clause-err g c =
    let took = c.take_first-first in
    let old = g.Q.RecordStore.queue c.args.queue.now in
    c.give_back.ensures.value ∙ ap (λ q. given_back q took.result) (c.in-Err.ensures.err ∙ took.ensures.value)
    ∙ put_back old c.layout-layout.ensures.sound took.result took.ensures.next c.args.job
