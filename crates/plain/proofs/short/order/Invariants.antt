use Rattle.std.proofs.Common.{◌≡◌, ◌-◌, ◌≤◌, drop, length}
use Rattle.std.specs.Ordering.{nat_cmp}
use Rattle.std.specs.Cmp.Lexicographic.{slice_cmp}
use Rattle.plain.proofs.short.order.Given as goal

-- what is left decides
abbrev pub invariant-loop-i : goal.invariant-loop-i
invariant-loop-i l = record { same : length l.a ≡ length l.b; within : l.i ≤ length l.a; left : slice_cmp nat_cmp l.a l.b ≡ slice_cmp nat_cmp (drop l.i l.a) (drop l.i l.b) }

abbrev pub decreases-loop-i : goal.decreases-loop-i
decreases-loop-i l = ◌-◌ l.len l.i
