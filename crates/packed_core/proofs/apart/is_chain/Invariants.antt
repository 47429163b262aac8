use Rattle.std.proofs.Common.{◌≡◌, ◌<◌, ◌≤◌, ℕ, Some}
use Rattle.std.specs.Prelude.{slice_get}
use Rattle.packed_core.specs.declared.classes.Class.{Class}
use Rattle.packed_core.specs.Ways.{Leads}
use Rattle.packed_core.proofs.apart.is_chain.Given as goal

-- each so far leads to those that come behind it
abbrev pub invariant-loop-i : goal.invariant-loop-i
invariant-loop-i l = (j k : ℕ) (a b : Class) → j ≤ k → k < l.i → slice_get l.list j ≡ Some a → slice_get l.list k ≡ Some b →
    Leads l.rising a.mask.items b.mask.items
