use Rattle.std.proofs.Common.{◌∙◌, sym}
use Rattle.cb_queue.specs.RecordQueues.{record_at}
use Rattle.cb_queue.proofs.Lent.{lent_owner}
use Rattle.record_rows.proofs.waiting.may_wait.Goals as goal

pub returns-then-owner-queued : goal.returns-then-owner-queued
returns-then-owner-queued g c = λ fits.
    let q = g.S.RecordStore.queue c.args.store.now in
    let can = c.can_be_of_a_job.ensures fits in
    record {
      job = can.0;
      owner =
          sym (lent_owner q.layout (record_at q c.args.queued.jct) c.in-Some.rec.now c.layout-layout.ensures.sound.own_link c.in-Some.ensures)
          ∙ sym c.owner.ensures ∙ c.if-owner-queued.true;
      class = (can.1, can.2);
      priority = can.3;
    }
