use Rattle.std.proofs.Common.{◌∙◌, List, Option, ap, sym}
use Rattle.std.specs.Prelude.{slice_get}
use Rattle.packed_core.proofs.Placing.{none_added}
use Rattle.packed_core.proofs.placed.lengthen.Goals as goal

pub loop-i-preserved : goal.loop-i-preserved
loop-i-preserved g c i y e =
    c.loop-i.invariant i y (none_added c.loop-i.list.items i y (sym (ap (λ (l : List (Option _)). slice_get l i) c.in_ok-push.ensures.items) ∙ e))
