use Rattle.std.proofs.Common.{◌≡◌, ◌≤◌, length}
use Rattle.cb_queue.proofs.Given.{given_above}
use Rattle.chain_store.proofs.store.ChainStoreRecordStore.give_back_all.Given as goal

abbrev pub invariant-loop-n : goal.invariant-loop-n
invariant-loop-n l = record {
  within : l.n ≤ length l.fn.self.queue.records;
  is : l.self.queue ≡ given_above l.fn.self.queue l.owner l.n;
  room : l.self.lacking ≡ l.fn.self.lacking;
}

abbrev pub decreases-loop-n : goal.decreases-loop-n
decreases-loop-n l = l.n
