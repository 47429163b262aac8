use Rattle.std.proofs.Common.{◌≡◌, ◌∙◌, ap, arith, true}
use Rattle.std.specs.Prelude.{is_some}
use Rattle.cb_queue.specs.RecordQueues.{record_at, with_status}
use Rattle.cb_queue.specs.Stored.{seen}
use Rattle.cb_queue.proofs.Uses.{reach, status_seen, status_stored}
use Rattle.cb_queue.proofs.list_store.ListStoreRecordStore.write_status.Goals as goal

pub index_mut-rec-requires : goal.index_mut-rec-requires
index_mut-rec-requires c =
    let used : is_some (record_at (seen c.self.inside) c.args.n) ≡ true = rw c.self.view_is c.requires in
    let below = reach c.self.inside c.self.invariant.0 c.args.n used in
    let room = c.self.invariant.0.records_room in
    let whole = c.self.inside.records.ok.0 in
    omega (arith, below, room, whole)

pub invariant_of-self : goal.invariant_of-self
invariant_of-self c =
    let used : is_some (record_at (seen c.self.inside) c.args.n) ≡ true = rw c.self.view_is c.requires in
    let e = c.index_mut-rec.ensures.value in
    let v = c.write_part.ensures.value in (
      status_stored c.self.inside c.self.invariant.0 c.args.n used c.index_mut-rec.result.now c.write_part.new.self c.args.status.now e c.write_part.ensures.whole
          (v ∙ c.as_slice.ensures) c.write_part.ensures.others c.are_bytes.ensures,
      c.self.invariant.1,
    )

pub returns-clause-value : goal.returns-clause-value
returns-clause-value c =
    let used : is_some (record_at (seen c.self.inside) c.args.n) ≡ true = rw c.self.view_is c.requires in
    status_seen c.self.inside c.self.invariant.0 c.args.n used c.index_mut-rec.result.now c.write_part.new.self c.args.status.now c.index_mut-rec.ensures.value
    c.write_part.ensures.whole (c.write_part.ensures.value ∙ c.as_slice.ensures) c.write_part.ensures.others
    ∙ ap (λ q. with_status q c.args.n c.args.status.now) c.self.view_is
