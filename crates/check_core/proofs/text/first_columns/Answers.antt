use Rattle.std.proofs.Common.{◌≤◌, arith, length, sym}
use Rattle.std.proofs.lemmas.List.{take_all}
use Rattle.check_core.proofs.text.first_columns.Goals as goal

pub returns-else-count-card : goal.returns-else-count-card
returns-else-count-card c =
    let short : length c.args.card.now ≤ c.args.count = omega (arith, c.if-count-card.false) in
    sym (take_all c.args.count c.args.card.now short)
