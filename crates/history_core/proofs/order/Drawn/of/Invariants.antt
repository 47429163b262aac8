use Rattle.std.proofs.Common.{◌≤◌, length}
use Rattle.history_core.proofs.order.Drawn.of.Given as goal

abbrev pub invariant-loop-holds : goal.invariant-loop-holds
invariant-loop-holds l = record { own : length l.drawn.places.items ≤ 60; together : length l.drawn.together.items ≤ 16 }
