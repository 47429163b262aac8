use Rattle.std.proofs.Common.{◌≡◌, drop}
use Rattle.jcl_symbols.specs.Substitutions.{value_of}
use Rattle.jcl_symbols.proofs.symbols.value_among.Given as goal

abbrev pub invariant-loop-symbol : goal.invariant-loop-symbol
invariant-loop-symbol l = value_of l.symbols l.name ≡ value_of (drop l.symbol-index l.symbols) l.name
