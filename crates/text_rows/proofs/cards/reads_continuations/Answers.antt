use Rattle.std.proofs.Common.{refl}
use Rattle.text_rows.proofs.cards.reads_continuations.Goals as goal

pub returns : goal.returns
returns c = record {
  resumed_in_3 = refl;
  resumed_in_4 = refl;
  resumed_in_16 = refl;
  resumed_in_17 = refl;
  comma_at_the_end = refl;
  comma_before_data = refl;
  comma_before_a_delimiter = refl;
  comment_between = refl;
  null_in_place_of_it = refl;
  null_with_column_72 = refl;
  three_cards = refl;
  comma_in_apostrophes = refl;
  comment_continued = refl;
  only_one_card = refl;
  marked_without_continuation = refl;
  marked_before_a_comment = refl;
  marked_before_null = refl;
  marked_without_operand = refl;
  marked_last_of_two = refl;
  marked_last_without_continuation = refl;
  column_73 = refl;
}
