use Rattle.std.proofs.Common.{refl}
use Rattle.text_rows.proofs.names.tells_first_characters.Goals as goal

pub returns : goal.returns
returns c = record {
  capital_a = refl;
  capital_z = refl;
  number_sign = refl;
  at_sign = refl;
  dollar_sign = refl;
  digit_0 = refl;
  digit_9 = refl;
  hyphen = refl;
  period = refl;
  small_a = refl;
  bracket = refl;
  slash = refl;
  colon = refl;
  quotation_mark = refl;
}
