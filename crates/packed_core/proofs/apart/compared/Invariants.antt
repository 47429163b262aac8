use Rattle.std.proofs.Common.{◌≡◌, ℕ, Some, Vec, length}
use Rattle.std.specs.Global.{Global}
use Rattle.std.specs.Prelude.{slice_get}
use Rattle.packed_core.specs.declared.classes.Class.{Class}
use Rattle.packed_core.specs.Ways.{AreApartFrom}
use Rattle.packed_core.proofs.apart.compared.Given as goal

-- the numbers that are apart from each so far
abbrev pub invariant-loop-i : goal.invariant-loop-i
invariant-loop-i l = record {
  many : length l.apart.items ≡ l.i;
  so : (j : ℕ) (class : Class) (numbers : Vec ℕ Global) → slice_get l.list.items j ≡ Some class → slice_get l.apart.items j ≡ Some numbers →
      AreApartFrom l.list.items class numbers.items;
}
