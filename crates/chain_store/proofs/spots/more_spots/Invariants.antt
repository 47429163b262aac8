use Rattle.std.proofs.Common.{◌≡◌, ◌-◌, ◌≤◌, ◌++◌, None, length, replicate}
use Rattle.chain_store.proofs.spots.more_spots.Given as goal

abbrev pub invariant-loop-spots : goal.invariant-loop-spots
invariant-loop-spots l = record {
  longer : length l.fn.spots.items ≤ length l.spots.items;
  none : l.spots.items ≡ l.fn.spots.items ++ replicate (length l.spots.items - length l.fn.spots.items) None;
}

abbrev pub decreases-loop-spots : goal.decreases-loop-spots
decreases-loop-spots l = l.wanted - length l.spots.items
