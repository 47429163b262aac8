use Rattle.std.proofs.Common.{refl}
use Rattle.text_rows.proofs.cards.reads_fields.Goals as goal

pub returns : goal.returns
returns c = record {
  ends_in_71 = refl;
  text_in_72 = refl;
  comma_in_71 = refl;
  comma_in_72 = refl;
  doubled_apostrophe = refl;
  blank_in_apostrophes = refl;
  left_open = refl;
  doubled_and_open = refl;
  closed_in_71 = refl;
  closed_in_72 = refl;
  open_on_a_continuation = refl;
  no_operation = refl;
  no_operation_and_column_72 = refl;
  operation_in_71 = refl;
  no_name = refl;
  pend = refl;
  apostrophe_behind_pend = refl;
}
