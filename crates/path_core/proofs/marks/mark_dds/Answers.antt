use Rattle.std.proofs.Common.{◌++◌, ◌∷◌, [], ◌∙◌}
use Rattle.path_core.specs.Marks.{place_of}
use Rattle.path_core.proofs.Marked.{dd_marked}
use Rattle.path_core.proofs.marks.mark_dds.Goals as goal

pub loop-i-preserved : goal.loop-i-preserved
loop-i-preserved c =
    c.in_ok-push.ensures.ok ∙ (λ i. c.loop-i.invariant i ++ c.is.ensures i ∷ [])
    ∙ dd_marked (place_of c.args.spot.now) c.args.n c.args.ended c.loop-i.i c.args.marks.now
