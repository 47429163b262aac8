use Rattle.card_core.specs.Cards.{first_line_fault}
use Rattle.deck_places.specs.Cards.{bad_line}
use Rattle.deck_places.proofs.Cards.{bad_so}
use Rattle.deck_places.proofs.Read.{are_cards, not_none}
use Rattle.deck_places.proofs.lines.cards_of.Goals as goal

pub returns-in-Ok : goal.returns-in-Ok
returns-in-Ok c =
    are_cards (first_line_fault c.args.lines.now) (bad_line c.args.lines.now) c.args.lines.now c.in-Ok.cards (bad_so 0 c.args.lines.now) c.in-Ok.ensures

pub unreachable-requires : goal.unreachable-requires
unreachable-requires c =
    not_none (first_line_fault c.args.lines.now) (bad_line c.args.lines.now) c.args.lines.now c.in-Err.field-0 (bad_so 0 c.args.lines.now) c.in-Err.ensures c.in-None.ensures
