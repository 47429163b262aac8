use Rattle.std.proofs.Common.{subst, sym}
use Rattle.check_core.specs.Spots.{IsSpotOf}
use Rattle.check_core.specs.declared.report.Spot.{Spot}
use Rattle.check_core.proofs.deck.report_of.Goals as goal

pub returns-clause-spot : goal.returns-clause-spot
returns-clause-spot c unmended units library place =
    subst (λ card. let s : Spot = record { card = card; column = c.in_ok-spot.spot.column } in IsSpotOf c.args.mended.now.lines.items c.args.cause c.args.at s)
    (sym (c.own_card.ensures unmended)) (c.in_ok-spot.ensures units library place)
