use Rattle.std.proofs.Common.{◌≤◌, drop, length}
use Rattle.seen_store.specs.Listing.{AreSets}
use Rattle.seen_store.proofs.sets.sets_by_place.Given as goal

-- the sets behind those that are left
abbrev pub invariant-loop-left : goal.invariant-loop-left
invariant-loop-left l = (l.left ≤ length l.list) × AreSets l.sets.entries (drop l.left l.list)

abbrev pub decreases-loop-left : goal.decreases-loop-left
decreases-loop-left l = l.left
