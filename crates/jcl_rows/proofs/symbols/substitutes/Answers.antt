use Rattle.std.proofs.Common.{refl}
use Rattle.jcl_symbols.specs.Substitutions.{substituted_from}
use Rattle.jcl_rows.proofs.symbols.substitutes.Goals as goal

pub returns : goal.returns
unfolding substituted_from
returns c = record {
  temporary = refl;
  nothing_behind_a_value = refl;
  long_without_symbols = refl;
}
