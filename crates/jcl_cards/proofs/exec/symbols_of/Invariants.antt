use Rattle.std.proofs.Common.{◌≡◌, ◌++◌, drop}
use Rattle.jcl_cards.specs.Execs.{symbols_of}
use Rattle.jcl_cards.proofs.exec.symbols_of.Given as goal

abbrev pub invariant-loop-keyword : goal.invariant-loop-keyword
invariant-loop-keyword l = symbols_of l.keywords ≡ l.symbols.items ++ symbols_of (drop l.keyword-index l.keywords)
