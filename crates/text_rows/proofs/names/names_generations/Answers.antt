use Rattle.std.proofs.Common.{lit<, lit≤, arith, refl}
use Rattle.text_rows.proofs.names.names_generations.Goals as goal

pub returns : goal.returns
returns c = record {
  first = refl;
  fourfold = refl;
  last = refl;
  of_the_longest_base = refl;
  may_be_first = (lit< tt, lit≤ tt, lit≤ tt);
  may_be_1234 = (lit< tt, lit≤ tt, lit≤ tt);
  may_be_last = (lit< tt, lit≤ tt, lit≤ tt);
  longest_base_has_one = (lit< tt, lit≤ tt, lit≤ tt);
  none_of_number_0 = λ h. omega (arith, h.0);
  none_of_number_10000 = λ h. omega (arith, h.1);
  none_of_a_longer_base = λ h. omega (arith, h.2);
}
