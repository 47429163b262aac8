use Rattle.std.proofs.Common.{refl}
use Rattle.text_rows.proofs.names.tells_bases.Goals as goal

pub returns : goal.returns
returns c = record {
  first = refl;
  last = refl;
  of_two_components = refl;
  of_a_generation = refl;
  no_base = refl;
  three_digits = refl;
  no_generation = refl;
  longest_base_comes_back = refl;
}
