use Rattle.std.proofs.Common.{refl}
use Rattle.jcl_rows.proofs.values.reads_set_names.Goals as goal

pub returns : goal.returns
returns c = record {
  longest = refl;
  temporary = refl;
  one_ampersand = refl;
  of_a_dd = refl;
  farthest = refl;
  farthest_before = refl;
  newest_by_two_digits = refl;
  of_the_longest_base = refl;
}
