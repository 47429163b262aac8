use Rattle.std.proofs.Common.{◌≡◌, take}
use Rattle.jcl_procs.proofs.bodies.copied_symbols.Given as goal

abbrev pub invariant-loop-symbol : goal.invariant-loop-symbol
invariant-loop-symbol l = l.copies ≡ take l.symbol-index l.symbols
