use Rattle.std.proofs.Common.{◌≡◌, ◌<◌, ℕ, bit_or, get_or}
use Rattle.packed_core.proofs.index.is_joined.Given as goal

abbrev pub invariant-loop-j : goal.invariant-loop-j
invariant-loop-j l = (i : ℕ) → i < l.j → get_or l.all i 0 ≡ bit_or (get_or l.row i 0) (get_or l.mask i 0)
