use Rattle.std.proofs.Common.{refl}
use Rattle.jcl_rows.proofs.values.counts_parameters.Goals as goal

pub returns : goal.returns
returns c = record {
  none = refl;
  of_100 = refl;
  in_apostrophes = refl;
  in_parentheses = refl;
  doubled_apostrophes = refl;
}
