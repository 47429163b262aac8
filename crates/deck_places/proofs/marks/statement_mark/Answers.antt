use Rattle.deck_places.proofs.Read.{marked, none_bad}
use Rattle.deck_places.proofs.marks.statement_mark.Goals as goal

pub returns-in-Cards : goal.returns-in-Cards
returns-in-Cards c statements read refused =
    let lined = c.in-Cards.ensures in
    marked c.args.lines.now c.in-Cards.cards c.as_slice.result.now c.in-Ok.statements.items statements c.args.k c.args.cause c.mark_among.result
    c.in-Ok.ensures c.as_slice.ensures.value read lined.0 lined.1 refused c.mark_among.ensures

pub returns : goal.returns
returns c statements read refused = absurd (none_bad c.args.lines.now c.in-Ok.statements.items c.in-Bad.field-0 c.in-Ok.ensures c.in-Bad.ensures)
