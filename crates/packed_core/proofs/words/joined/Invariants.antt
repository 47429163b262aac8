use Rattle.std.proofs.Common.{◌≡◌, ◌<◌, ℕ, bit_or, get_or, length}
use Rattle.packed_core.proofs.words.joined.Given as goal

abbrev pub invariant-loop-j : goal.invariant-loop-j
invariant-loop-j l = record {
  count : length l.all.items ≡ l.j;
  each : (i : ℕ) → i < l.j → get_or l.all.items i 0 ≡ bit_or (get_or l.row i 0) (get_or l.mask i 0);
}
