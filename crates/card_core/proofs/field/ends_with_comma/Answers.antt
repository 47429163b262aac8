use Rattle.std.proofs.Common.{sym, arith}
use Rattle.card_core.proofs.Operands.{ends_with_comma-last}
use Rattle.card_core.proofs.field.ends_with_comma.Goals as goal

pub returns-in-len1-up : goal.returns-in-len1-up
returns-in-len1-up c = sym (ends_with_comma-last c.args.text.now (omega arith))
