use Rattle.std.proofs.Common.{All, subst, sym}
use Rattle.std.proofs.lemmas.List.Elements.{All-filter}
use Rattle.cb_queue.specs.RecordQueues.{AreInOrder, IsQueued}
use Rattle.cb_queue.specs.Stored.{seen}
use Rattle.cb_queue.proofs.Changing.{order_left}
use Rattle.cb_queue.proofs.Storing.{stored_waiting}
use Rattle.cb_queue.proofs.list_store.ListStoreRecordStore.remove.Goals as goal

pub invariant_of-self : goal.invariant_of-self
invariant_of-self c = (
  stored_waiting c.self.inside.layout c.self.inside.owners.items c.self.inside.records.items c.self.inside.free.items c.self.inside.free_count c.self.inside.waiting
      c.self.invariant.0 c.remove.new.self (subst AreInOrder (sym c.remove.ensures.left) (order_left _ c.self.inside.waiting c.self.invariant.0.sound.in_order))
      (subst (All (IsQueued (seen c.self.inside))) (sym c.remove.ensures.left) (All-filter _ (IsQueued (seen c.self.inside)) c.self.inside.waiting c.self.invariant.0.sound.queued)),
  c.self.invariant.1,
)
