use Rattle.std.proofs.Common.{◌≡◌}
use Rattle.seen_store.specs.Listing.{sets_of}
use Rattle.view_core.specs.Same.{sets_alike}
use Rattle.view_core.proofs.same.each_set_alike.Given as goal

-- what is left says what all say
abbrev pub invariant-loop-place : goal.invariant-loop-place
invariant-loop-place l =
    (goal.iterator-loop-place).can_next l.sets × (goal.iterator-loop-place).is_finite l.sets
    × (sets_alike l.names l.date l.a l.b (sets_of l.sets) ≡ sets_alike l.names l.date l.a l.b (sets_of l.initial.sets))
