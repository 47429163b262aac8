use Rattle.std.proofs.Common.{◌≡◌, ◌-◌, ◌<◌, ◌≤◌, ℕ, get_or, length, min}
use Rattle.plain.proofs.short.order_by_bytes.Given as goal

-- those so far are equal
abbrev pub invariant-loop-i : goal.invariant-loop-i
invariant-loop-i l = record { both : l.both ≡ min (length l.a) (length l.b); within : l.i ≤ l.both; equal : (j : ℕ) → j < l.i → get_or l.a j 0 ≡ get_or l.b j 0 }

abbrev pub decreases-loop-i : goal.decreases-loop-i
decreases-loop-i l = ◌-◌ l.both l.i
