use Rattle.std.proofs.Common.{◌≡◌, ◌≤◌, length}
use Rattle.history_core.proofs.order.Drawn.add_own.Given as goal

abbrev pub invariant-loop-taken : goal.invariant-loop-taken
invariant-loop-taken l = record { few : length l.self.places.items ≤ l._taken; together : l.self.together ≡ l.fn.self.together }
