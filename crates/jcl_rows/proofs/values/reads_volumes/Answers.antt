use Rattle.std.proofs.Common.{refl}
use Rattle.jcl_rows.proofs.values.reads_volumes.Goals as goal

pub returns : goal.returns
returns c = record {
  serial_in_parentheses = refl;
  behind_words = refl;
  of_a_dd = refl;
  retained = refl;
  nothing = refl;
  of_the_longest_name = refl;
}
