use Rattle.std.proofs.Common.{◌≡◌, ◌≤◌, drop}
use Rattle.operand_core.specs.Operands.{balanced_from, is_balanced}
use Rattle.operand_core.proofs.scan.is_balanced.Given as goal

abbrev pub invariant-loop-c : goal.invariant-loop-c
invariant-loop-c l = (l.depth ≤ l.c-index) × (is_balanced l.text ≡ balanced_from l.quoted l.depth (drop l.c-index l.text))
