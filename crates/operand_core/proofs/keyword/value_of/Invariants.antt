use Rattle.std.proofs.Common.{◌≡◌, drop}
use Rattle.operand_core.specs.Keywords.{value_of}
use Rattle.operand_core.proofs.keyword.value_of.Given as goal

abbrev pub invariant-loop-keyword : goal.invariant-loop-keyword
invariant-loop-keyword l = value_of l.key l.keywords ≡ value_of l.key (drop l.keyword-index l.keywords)
