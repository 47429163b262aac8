use Rattle.std.proofs.Common.{◌≡◌, ◌-◌, length, take}
use Rattle.chain_store.specs.Links.{AreWhole}
use Rattle.chain_store.proofs.records.more_records.Given as goal

abbrev pub invariant-loop-records : goal.invariant-loop-records
invariant-loop-records l = record {
  kept : take (length l.fn.records.items) l.records.items ≡ l.fn.records.items;
  whole : AreWhole l.fn.records.items → AreWhole l.records.items;
}

abbrev pub decreases-loop-records : goal.decreases-loop-records
decreases-loop-records l = l.wanted - length l.records.items
