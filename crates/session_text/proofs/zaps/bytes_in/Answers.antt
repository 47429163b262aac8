use Rattle.std.proofs.Common.{arith}
use Rattle.session_text.proofs.Zapped.{too_many}
use Rattle.session_text.proofs.zaps.bytes_in.Goals as goal

pub returns-then-digits : goal.returns-then-digits
returns-then-digits c = too_many c.args.digits.now (omega (arith, c.if-digits.true))
