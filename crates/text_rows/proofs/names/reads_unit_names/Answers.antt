use Rattle.std.proofs.Common.{refl}
use Rattle.text_rows.proofs.names.reads_unit_names.Goals as goal

pub returns : goal.returns
returns c = record {
  of_digits = refl;
  of_letters = refl;
  eight = refl;
  empty = refl;
  nine = refl;
  nine_with_a_hyphen = refl;
  hyphen = refl;
}
