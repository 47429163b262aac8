use Rattle.std.proofs.Common.{◌≡◌, false}
use Rattle.std.specs.List.{list_any}
use Rattle.packed_core.specs.Words.{bits_from}
use Rattle.packed_core.proofs.words.some_bit.Given as goal

abbrev pub invariant-loop-i : goal.invariant-loop-i
invariant-loop-i l = list_any (λ b. b) (bits_from l.i l.from l.row) ≡ false
