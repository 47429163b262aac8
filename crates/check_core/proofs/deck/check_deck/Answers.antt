use Rattle.std.proofs.Common.{subst}
use Rattle.deck_places.specs.Places.{IsJudged}
use Rattle.check_core.proofs.Told.{told_so}
use Rattle.check_core.proofs.deck.check_deck.Goals as goal

pub returns : goal.returns
returns c =
    let units = c.args.sources.now.units.now in
    let library = c.args.sources.now.library.now in
    let lines = c.args.lines.now in
    told_so units library lines c.in_ok-mended.mended.lines.items c.in-Refused.cause c.in-Refused.at c.in_ok-first.first
    (subst (IsJudged units library lines) c.in-Refused.is c.in_ok-plan.ensures)
    c.in_ok-first.ensures.told.0 c.in_ok-first.ensures.told.1
    (c.in_ok-first.ensures.spot c.in_ok-mended.ensures.unmended units library) c.in_ok-first.ensures.inside c.in_ok-mended.ensures.lines
