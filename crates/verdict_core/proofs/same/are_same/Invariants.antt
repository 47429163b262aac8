use Rattle.std.proofs.Common.{◌≡◌, length, take}
use Rattle.verdict_core.proofs.same.are_same.Given as goal

-- those so far are the same
abbrev pub invariant-loop-i : goal.invariant-loop-i
invariant-loop-i g l = record { as_long : length l.a ≡ length l.b; alike : take l.i l.a ≡ take l.i l.b }
