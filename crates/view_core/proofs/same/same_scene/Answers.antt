use Rattle.std.proofs.Common.{◌≡◌, Bool, subst, sym}
use Rattle.std.specs.Prelude.{Decides}
use Rattle.view_core.specs.Same.{shown_alone}
use Rattle.view_core.proofs.SameViews.{scenes_decide}
use Rattle.view_core.proofs.same.same_scene.Goals as goal

pub returns : goal.returns
returns c =
    subst (λ (b : Bool). Decides b (shown_alone c.args.names.now c.args.date c.args.later.now c.args.a.now
    ≡ shown_alone c.args.names.now c.args.date c.args.later.now c.args.b.now)) (sym c.scene_alike.ensures)
    (scenes_decide c.args.names.now c.args.date c.args.later.now c.args.a.now c.args.b.now)
