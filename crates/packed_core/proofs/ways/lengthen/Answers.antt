use Rattle.std.proofs.Common.{◌≡◌, ◌∙◌, ◌++◌, ◌∷◌, ℕ, zero, suc, List, [], Option, None, Some, ap, sym}
use Rattle.std.specs.Prelude.{slice_get}
use Rattle.packed_core.proofs.ways.lengthen.Goals as goal

none_more : (notes : List (Option ℕ)) (i c : ℕ) → slice_get (notes ++ None ∷ []) i ≡ Some (Some c) → slice_get notes i ≡ Some (Some c)
none_more [] zero c e = absurd cc
none_more [] (suc i) c e = absurd cc
none_more (n ∷ notes) zero c e = e
none_more (n ∷ notes) (suc i) c e = none_more notes i c e

pub loop-i-preserved : goal.loop-i-preserved
loop-i-preserved c i k e =
    c.loop-i.invariant i k (none_more c.loop-i.notes.items i k (sym (ap (λ (l : List (Option ℕ)). slice_get l i) c.in_ok-push.ensures.items) ∙ e))
