use Rattle.std.proofs.Common.{◌∙◌, sym}
use Rattle.cb_queue.specs.RecordQueues.{record_at}
use Rattle.cb_walk.proofs.Arrivals.{brought, none_brought}
use Rattle.cb_walk.proofs.arrival.bring.Goals as goal

pub returns-in-Some : goal.returns-in-Some
returns-in-Some g c =
    brought (g.S.RecordStore.queue c.args.store.now) c.layout-layout.ensures.sound c.layout-layout.result.now c.layout-layout.ensures.value c.args.n
    c.in-Some.r.now c.write_zeros.new.own c.in-Some.ensures c.write_zeros.ensures.others c.write_zeros.ensures.value

pub returns-in-None : goal.returns-in-None
returns-in-None g c =
    let q = g.S.RecordStore.queue c.args.store.now in
    c.zeroed.ensures ∙ sym (none_brought q.layout (record_at q c.args.n) c.in-None.ensures)
