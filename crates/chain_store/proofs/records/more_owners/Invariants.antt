use Rattle.std.proofs.Common.{◌≡◌, ◌-◌, ◌≤◌, ℕ, ◌++◌, length, replicate}
use Rattle.chain_store.proofs.records.more_owners.Given as goal

abbrev pub invariant-loop-owners : goal.invariant-loop-owners
invariant-loop-owners l = record {
  longer : length l.fn.owners.items ≤ length l.owners.items;
  zeros : l.owners.items ≡ l.fn.owners.items ++ replicate (length l.owners.items - length l.fn.owners.items) 0;
  most : (m : ℕ) → length l.fn.owners.items ≤ m → l.wanted ≤ m → length l.owners.items ≤ m;
}

abbrev pub decreases-loop-owners : goal.decreases-loop-owners
decreases-loop-owners l = l.wanted - length l.owners.items
