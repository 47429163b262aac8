use Rattle.std.proofs.Common.{refl}
use Rattle.text_rows.proofs.cards.reads_lines.Goals as goal

pub returns : goal.returns
returns c = record {
  of_80_columns = refl;
  of_81_columns = refl;
  of_81_columns_with_a_blank = refl;
  byte_20 = refl;
  byte_1f = refl;
  byte_7e = refl;
  byte_7f = refl;
  long_before_bad = refl;
  bad_card_before_long_card = refl;
  line_fault_first = refl;
  line_fault_behind_null = refl;
  other_fault_behind_null = refl;
}
