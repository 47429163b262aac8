use Rattle.std.proofs.Common.{◌≡◌}
use Rattle.seen_store.specs.Listing.{entries_of}
use Rattle.view_core.specs.Same.{entries_alike}
use Rattle.view_core.proofs.same.each_entry_alike.Given as goal

-- what is left says what all say
abbrev pub invariant-loop-name : goal.invariant-loop-name
invariant-loop-name l =
    (goal.iterator-loop-name).can_next l.entries × (goal.iterator-loop-name).is_finite l.entries
    × (entries_alike l.names l.a l.b (entries_of l.entries) ≡ entries_alike l.names l.a l.b (entries_of l.initial.entries))
