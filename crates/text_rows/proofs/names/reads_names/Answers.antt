use Rattle.std.proofs.Common.{refl}
use Rattle.text_rows.proofs.names.reads_names.Goals as goal

pub returns : goal.returns
returns c = record {
  one = refl;
  of_each_kind = refl;
  eight = refl;
  empty = refl;
  nine = refl;
  nine_with_a_hyphen = refl;
  begins_with_a_digit = refl;
  begins_with_a_hyphen = refl;
  hyphen = refl;
  period = refl;
  small_letter = refl;
}
