use Rattle.std.proofs.Common.{◌∙◌, sym}
use Rattle.cb_queue.specs.RecordQueues.{record_at}
use Rattle.cb_queue.proofs.Lent.{lent_owner}
use Rattle.record_rows.proofs.store.put.Goals as goal

pub put-requires-clause-owner : goal.put-requires-clause-owner
put-requires-clause-owner g c =
    sym c.owner-else-n-layout.ensures ∙ sym c.if-owner.false ∙ c.owner.ensures
    ∙ lent_owner (g.S.RecordStore.queue c.args.store.now).layout (record_at (g.S.RecordStore.queue c.args.store.now) c.args.n) c.in-Some.was.now
    c.layout-layout.ensures.sound.own_link c.in-Some.ensures
