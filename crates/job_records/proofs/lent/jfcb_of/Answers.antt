use Rattle.std.proofs.Common.{◌∙◌, subst, sym}
use Rattle.cb_queue.specs.RecordQueues.{shown}
use Rattle.cb_records.specs.Writes.{FitsRecord}
use Rattle.job_records.proofs.Seen.{byte_stays, jfcb_seen, lent_differs}
use Rattle.job_records.proofs.lent.jfcb_of.Goals as goal

pub invariant_of-result : goal.invariant_of-result
invariant_of-result g c =
    let q = g.S.RecordStore.queue c.args.store.now in
    let own = c.layout-layout.ensures.sound.own_link in
    record {
      of_kind = byte_stays q.layout.link 0 ((shown q).at c.args.n) c.in-Some.bytes.now (lent_differs q c.args.n c.in-Some.bytes.now c.in-Some.ensures) own.kind
          ∙ c.requires.kind;
      fits = subst FitsRecord (sym c.layout-layout.ensures.value) own.fits;
    }

pub returns-clause-fields : goal.returns-clause-fields
returns-clause-fields g c =
    let q = g.S.RecordStore.queue c.args.store.now in
    jfcb_seen q.layout ((shown q).at c.args.n) c.in-Some.bytes.now (lent_differs q c.args.n c.in-Some.bytes.now c.in-Some.ensures) c.requires.own.jfcb
