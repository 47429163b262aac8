use Rattle.std.proofs.Common.{refl}
use Rattle.text_rows.proofs.cards.reads_data.Goals as goal

pub returns : goal.returns
returns c = record {
  data_keeps_statements = refl;
  asterisk_ends_at_a_statement = refl;
  asterisk_ends_at_a_delimiter = refl;
  blank_before_slashes = refl;
  data_to_the_end = refl;
  null_ends_data = refl;
  other_words = refl;
  continued_asterisk = refl;
  comment_of_an_asterisk = refl;
  loose = refl;
  delimiter_of_nothing = refl;
  two_delimiters = refl;
  comment_cards = refl;
  empty_data_before_exec = refl;
  data_before_exec = refl;
  loose_before_exec = refl;
  empty_line_before_exec = refl;
  empty_line_alone = refl;
  empty_line_is_data = refl;
  data_before_no_operation = refl;
  no_operation_before_data = refl;
  exec_before_job = refl;
  no_cards = refl;
  whole_cards = refl;
}
