use Rattle.std.proofs.Common.{◌≡◌, map, take}
use Rattle.jcl_cards.specs.Keywords.{symbol_of}
use Rattle.jcl_cards.proofs.procedure.symbols_of.Given as goal

abbrev pub invariant-loop-keyword : goal.invariant-loop-keyword
invariant-loop-keyword l = l.symbols.items ≡ map symbol_of (take l.keyword-index l.keywords)
