use Rattle.std.proofs.Common.{◌≡◌, ℕ, Some}
use Rattle.std.specs.Prelude.{slice_get}
use Rattle.packed_core.proofs.ways.lengthen.Given as goal

abbrev pub invariant-loop-i : goal.invariant-loop-i
invariant-loop-i l = (i c : ℕ) → slice_get l.notes.items i ≡ Some (Some c) → slice_get l.fn.notes.items i ≡ Some (Some c)
