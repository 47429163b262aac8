use Rattle.std.proofs.Common.{◌∙◌, rules}
use Rattle.view_core.proofs.Beside.{sets_in_place}
use Rattle.view_core.proofs.same.two_sets_alike.Goals as goal

pub returns-then-same_place : goal.returns-then-same_place
returns-then-same_place c =
    c.shown_alike.ensures
    ∙ sets_in_place c.args.names.now c.args.date c.args.a.now c.args.b.now c.args.x.0.now c.args.y.0.now c.args.x.1.now c.args.y.1.now
    (search rules) c.requires.first c.requires.other
