use Rattle.std.proofs.Common.{◌≡◌, ◌≤◌, length}
use Rattle.cb_queue.proofs.Given.{given_above}
use Rattle.cb_queue.proofs.list_store.ListStoreRecordStore.give_back_all.Given as goal

abbrev pub invariant-loop-n : goal.invariant-loop-n
invariant-loop-n l = record { within : l.n ≤ length l.fn.self.records; is : l.self ≡ given_above l.fn.self l.owner l.n }

abbrev pub decreases-loop-n : goal.decreases-loop-n
decreases-loop-n l = l.n
