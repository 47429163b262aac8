use Rattle.std.proofs.Common.{refl}
use Rattle.jcl_rows.proofs.values.reads_units.Goals as goal

pub returns : goal.returns
returns c = record {
  number = refl;
  with_a_count = refl;
  empty = refl;
  no_name = refl;
  long_name = refl;
  bad_name = refl;
  affinity_in_parentheses = refl;
}
