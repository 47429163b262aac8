use Rattle.card_core.proofs.Lending.{short_lines}
use Rattle.std.proofs.Common.{sym}
use Rattle.card_core.proofs.images.CardImages.of_lines.Goals as goal

pub invariant_of-result : goal.invariant_of-result
invariant_of-result c = short_lines c.args.lines.now (sym c.in-None.ensures)
