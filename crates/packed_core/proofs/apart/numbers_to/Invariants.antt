use Rattle.std.proofs.Common.{◌<◌, ℕ}
use Rattle.std.specs.Prelude.{All, Contains}
use Rattle.packed_core.proofs.apart.numbers_to.Given as goal

abbrev pub invariant-loop-i : goal.invariant-loop-i
invariant-loop-i l = record {
  below : All (λ j. j < l.count) l.numbers.items;
  every : (j : ℕ) → j < l.i → Contains l.numbers.items j;
}
