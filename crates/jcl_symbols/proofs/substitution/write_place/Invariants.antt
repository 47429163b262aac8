use Rattle.std.proofs.Common.{None, length}
use Rattle.jcl_symbols.specs.Substitutions.{substituted_from, substituted_in}
use Rattle.jcl_symbols.specs.Writing.{Writes}
use Rattle.jcl_symbols.proofs.substitution.write_place.Given as goal

abbrev pub invariant-loop-c : goal.invariant-loop-c
invariant-loop-c l =
    Writes l.initial.text.items l.text.items (substituted_in l.symbols l.place) (substituted_from l.symbols l.quoted None l.rest) l.lacks_value

abbrev pub decreases-loop-c : goal.decreases-loop-c
decreases-loop-c l = length l.rest
