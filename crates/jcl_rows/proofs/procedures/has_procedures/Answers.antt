use Rattle.std.proofs.Common.{refl}
use Rattle.jcl_symbols.specs.Substitutions.{substituted_from}
use Rattle.jcl_rows.proofs.procedures.has_procedures.Goals as goal

pub returns : goal.returns
unfolding substituted_from
returns c = record {
  first = refl;
  second = refl;
  of_an_empty_line = refl;
  none = refl;
}
