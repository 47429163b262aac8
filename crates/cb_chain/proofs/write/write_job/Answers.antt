use Rattle.std.proofs.Common.{[], ◌∷◌}
use Rattle.cb_chain.proofs.Stored.{ready_after}
use Rattle.cb_chain.proofs.write.write_job.Goals as goal

pub write_from-requires-clause-ready : goal.write_from-requires-clause-ready
write_from-requires-clause-ready g c =
    let first = c.take_first-first in
    ready_after (first.result ∷ []) (g.S.RecordStore.queue c.args.store.now) (g.S.RecordStore.queue first.new.store) first.ensures.ready first.ensures.takes.took

pub returns-clause-written : goal.returns-clause-written
returns-clause-written g c =
    c.write_from.ensures.written (g.S.RecordStore.queue c.args.store.now) c.take_first-first.ensures.ready c.take_first-first.ensures.takes
