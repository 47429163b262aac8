use Rattle.std.proofs.lemmas.Bool.Decides.{Decides-at}
use Rattle.view_core.proofs.SameViews.{among_decide}
use Rattle.view_core.proofs.same.is_shown.Goals as goal

pub returns : goal.returns
returns c =
    Decides-at _ _ c.any_same.ensures
    (among_decide c.args.names.now c.args.date c.args.tests c.args.later.now c.args.view.now c.args.views.now)
