use Rattle.std.proofs.Common.{◌≡◌, drop}
use Rattle.jcl_dds.specs.Dds.{coding}
use Rattle.jcl_dds.proofs.dd_value.coding.Given as goal

abbrev pub invariant-loop-keyword : goal.invariant-loop-keyword
invariant-loop-keyword l = coding l.key l.keywords ≡ coding l.key (drop l.keyword-index l.keywords)
