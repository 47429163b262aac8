use Rattle.std.proofs.Common.{◌≡◌, false, drop}
use Rattle.operand_core.specs.Operands.{open_at_end}
use Rattle.operand_core.proofs.scan.is_closed.Given as goal

abbrev pub invariant-loop-c : goal.invariant-loop-c
invariant-loop-c l = open_at_end false l.text ≡ open_at_end l.open (drop l.c-index l.text)
