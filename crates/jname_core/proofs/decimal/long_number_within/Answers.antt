use Rattle.std.proofs.Common.{◌≡◌, true, arith}
use Rattle.jname_core.specs.Decimals.{is_decimal}
use Rattle.jname_core.proofs.Decimals.{within_capped}
use Rattle.jname_core.proofs.decimal.long_number_within.Goals as goal

pub returns-then-value-from-clause-value : goal.returns-then-value-from-clause-value
returns-then-value-from-clause-value c =
    let digits : is_decimal c.args.text.now ≡ true = cc in
    within_capped c.args.low c.args.high c.capped_value-value.result c.args.text.now digits (omega (arith, c.capped_value-value.ensures)) (omega arith) (omega arith)
