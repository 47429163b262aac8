use Rattle.std.proofs.Common.{◌<◌, All, subst, sym}
use Rattle.cb_queue.specs.RecordQueues.{IsQueued, RecordQueue}
use Rattle.cb_queue.specs.Stored.{seen}
use Rattle.cb_queue.proofs.Changing.{order_after, queued_after}
use Rattle.cb_queue.proofs.Storing.{stored_waiting}
use Rattle.cb_queue.proofs.list_store.ListStoreRecordStore.enter.Goals as goal

pub invariant_of-self : goal.invariant_of-self
invariant_of-self c =
    let later : All (λ x. x.job < c.args.queued.job) c.self.inside.waiting =
    subst (λ (q : RecordQueue). All (λ x. x.job < c.args.queued.job) q.waiting) (sym c.self.view_is) c.requires.later in (
      stored_waiting c.self.inside.layout c.self.inside.owners.items c.self.inside.records.items c.self.inside.free.items c.self.inside.free_count c.self.inside.waiting
          c.self.invariant.0 c.enter.new.self
          (order_after c.self.inside.waiting c.enter.new.self c.args.queued c.enter.result c.enter.ensures.ok c.enter.ensures.err c.self.invariant.0.sound.in_order later)
          (queued_after (seen c.self.inside) c.self.inside.waiting c.enter.new.self c.args.queued c.enter.result c.enter.ensures.ok c.enter.ensures.err
          c.self.invariant.0.sound.queued (subst (λ q. IsQueued q c.args.queued) (sym c.self.view_is) c.requires.queued)),
      c.self.invariant.1,
    )
