use Rattle.std.proofs.Common.{◌≡◌, ◌≢◌, ◌-◌, ◌∙◌, Some, subst, sym, true}
use Rattle.std.specs.Prelude.{is_some}
use Rattle.cb_queue.proofs.Changing.{used_of}
use Rattle.cb_queue.specs.RecordQueues.{IsLent, owner_at, record_at}
use Rattle.chain_store.specs.Chained.{queue_in, tables_of}
use Rattle.chain_store.specs.Values.{Linked}
use Rattle.chain_store.proofs.Ops.{lent_there}
use Rattle.chain_store.proofs.Uses.{number, used_at}
use Rattle.chain_store.proofs.store.ChainStoreRecordStore.get.Goals as goal

pub returns : goal.returns
returns c =
    let t = tables_of c.self.inside in
    let h = c.self.invariant.tables in
    let owned : owner_at c.args.self.now.queue c.args.n ≢ 0 = λ none. c.if-owner-eq0.false (c.owner.ensures.value ∙ none) in
    let used : is_some (record_at (queue_in t) c.args.n) ≡ true = subst (λ (v : Linked). is_some (record_at v.queue c.args.n) ≡ true) (sym c.self.view_is) (used_of (record_at c.args.self.now.queue c.args.n) owned) in
    subst (λ (v : Linked). IsLent v.queue.layout (record_at v.queue c.args.n) (Some c.index.result.now)) c.self.view_is
    (subst (λ m. IsLent t.layout (record_at (queue_in t) m) (Some c.index.result.now)) (number t h c.args.n used)
    (lent_there t h (c.args.n - 1) (used_at t h c.args.n used) c.index.result.now c.index.ensures))
