use Rattle.std.proofs.Common.{refl}
use Rattle.jcl_rows.proofs.values.reads_dispositions.Goals as goal

pub returns : goal.returns
returns c = record {
  old = refl;
  keep_alone = refl;
  mod_and_pass = refl;
  conditional_alone = refl;
  all_words = refl;
  no_status = refl;
  word_as_a_status = refl;
  two_statuses = refl;
  four_places = refl;
  open_parenthesis = refl;
}
