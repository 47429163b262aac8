use Rattle.std.proofs.Common.{subst, sym}
use Rattle.std.proofs.lemmas.Result.{IfOk-weaker}
use Rattle.std.specs.Prelude.{IfOk}
use Rattle.deck_places.specs.Cards.{walk_of}
use Rattle.deck_places.specs.Places.{IsPlace}
use Rattle.check_core.specs.Spots.{IsCardShown, IsSpotOf}
use Rattle.check_core.proofs.Told.{shown_elsewhere}
use Rattle.check_core.proofs.mark.spot_of.Goals as goal

pub returns-in-Statement : goal.returns-in-Statement
returns-in-Statement c units library place =
    let lines = c.args.mended.now.lines.items in
    subst (λ at. IfOk c.statement_spot.result (IsSpotOf lines c.args.cause at)) (sym c.in-Statement.is)
    (c.statement_spot.ensures units library (subst (IsPlace units library lines c.args.cause) c.in-Statement.is place))

pub returns-in_default : goal.returns-in_default
returns-in_default c units library place =
    let lines = c.args.mended.now.lines.items in
    IfOk-weaker c.card_spot.result (λ s. IsCardShown (walk_of lines).begun c.args.at s.card) (IsSpotOf lines c.args.cause c.args.at)
    (shown_elsewhere lines c.args.cause c.args.at c.in_default.not-Statement)
    (c.card_spot.ensures (c.each_place_has_a_statement.ensures units library lines c.args.cause c.args.at place))
