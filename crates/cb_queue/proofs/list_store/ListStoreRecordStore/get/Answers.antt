use Rattle.std.proofs.Common.{◌≡◌, ◌≢◌, ◌∙◌, Some, subst, true}
use Rattle.std.specs.Prelude.{is_some}
use Rattle.cb_queue.specs.RecordQueues.{IsLent, owner_at, record_at}
use Rattle.cb_queue.specs.Stored.{seen}
use Rattle.cb_queue.proofs.Changing.{used_of}
use Rattle.cb_queue.proofs.Uses.{lent_there}
use Rattle.cb_queue.proofs.list_store.ListStoreRecordStore.get.Goals as goal

pub returns : goal.returns
returns c =
    let owned : owner_at c.args.self.now c.args.n ≢ 0 = λ none. c.if-owner-eq0.false (c.owner.ensures.value ∙ none) in
    let used : is_some (record_at (seen c.self.inside) c.args.n) ≡ true = rw c.self.view_is (used_of (record_at c.args.self.now c.args.n) owned) in
    subst (λ q. IsLent q.layout (record_at q c.args.n) (Some c.index.result.now)) c.self.view_is
    (lent_there c.self.inside c.self.invariant.0 c.args.n used c.index.result.now c.index.ensures)
