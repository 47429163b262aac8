use Rattle.std.proofs.Common.{refl}
use Rattle.jcl_dds.proofs.examples.reads_dds.Goals as goal

pub returns : goal.returns
returns c = record {
  set = refl;
  nothing = refl;
  cards = refl;
  qualified = refl;
  nullified = refl;
  sysout_of_four = refl;
  two_spellings = refl;
  of_a_volume = refl;
  two_words = refl;
  word_and_class = refl;
  word_and_no_class = refl;
  word_and_name = refl;
  data_and_unit = refl;
  data_and_forms = refl;
  data_and_forms_alone = refl;
  later_dd = refl;
  later_dd_and_status = refl;
  class_and_status = refl;
  class_and_unit = refl;
  unknown_word = refl;
  dynamic = refl;
  unknown = refl;
  left_out = refl;
  names_first = refl;
  of_three_parts = refl;
  too_long = refl;
}
