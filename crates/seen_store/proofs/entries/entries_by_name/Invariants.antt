use Rattle.std.proofs.Common.{◌≤◌, drop, length}
use Rattle.seen_store.specs.Listing.{AreEntries}
use Rattle.seen_store.proofs.entries.entries_by_name.Given as goal

-- the entries behind those that are left
abbrev pub invariant-loop-left : goal.invariant-loop-left
invariant-loop-left l = (l.left ≤ length l.list) × AreEntries l.entries.entries (drop l.left l.list)

abbrev pub decreases-loop-left : goal.decreases-loop-left
decreases-loop-left l = l.left
