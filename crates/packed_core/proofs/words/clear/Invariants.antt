use Rattle.std.proofs.Common.{◌≡◌, ◌+◌, ◌<◌, ◌≤◌, ℕ, false, length, get_or}
use Rattle.packed_core.specs.Words.{AreWords, bit}
use Rattle.packed_core.proofs.words.clear.Given as goal

abbrev pub invariant-loop-i : goal.invariant-loop-i
invariant-loop-i l = record {
  long : length l.row ≡ length l.fn.row;
  cleared : (k : ℕ) → l.from ≤ k → k < l.from + l.i → bit l.row k ≡ false;
  before : (k : ℕ) → k < l.from → bit l.row k ≡ bit l.fn.row k;
  after : (k : ℕ) → l.from + l.i ≤ k → bit l.row k ≡ bit l.fn.row k;
  first : get_or l.row 0 0 ≡ get_or l.fn.row 0 0;
  within : AreWords l.row;
}
