use Rattle.std.proofs.Common.{◌≡◌, ◌+◌, ℕ, length}
use Rattle.packed_core.specs.Asking.{AskUpTo}
use Rattle.packed_core.proofs.asking.asking_steps.Given as goal

abbrev pub invariant-loop-i : goal.invariant-loop-i
invariant-loop-i l = (n : ℕ) → n + l.i ≡ length l.steps → AskUpTo l.steps n
