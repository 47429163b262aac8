use Rattle.std.proofs.Common.{◌≡◌, take}
use Rattle.std.specs.List.{flat_map}
use Rattle.operand_core.specs.Faults.{told}
use Rattle.jcl_cards.proofs.rules.each_fault.Given as goal

abbrev pub invariant-loop-keyword : goal.invariant-loop-keyword
invariant-loop-keyword g l = l.fault ≡ told (flat_map (g.R.KeywordRule.faults l.rule) (take l.keyword-index l.keywords))
