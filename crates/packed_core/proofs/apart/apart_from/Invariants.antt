use Rattle.std.proofs.Common.{◌≡◌, ◌<◌, ℕ, Some, length}
use Rattle.std.specs.Prelude.{◌⊎◌, All, Contains, slice_get}
use Rattle.packed_core.specs.declared.classes.Class.{Class}
use Rattle.packed_core.specs.Ways.{AreNested}
use Rattle.packed_core.proofs.apart.apart_from.Given as goal

-- each class so far
abbrev pub invariant-loop-i : goal.invariant-loop-i
invariant-loop-i l = record {
  below : All (λ j. j < length l.list) l.numbers.items;
  others : (j : ℕ) (other : Class) → j < l.i → slice_get l.list j ≡ Some other → Contains l.numbers.items j ⊎ AreNested l.class.mask.items other.mask.items;
}
