use Rattle.std.proofs.Common.{refl}
use Rattle.jcl_symbols.specs.Substitutions.{substituted_from}
use Rattle.jcl_rows.proofs.edges.refuses_cards_and_names.Goals as goal

pub returns : goal.returns
unfolding substituted_from
returns c = record {
  of_80_columns = refl;
  of_81_columns = refl;
  last_printable = refl;
  not_printable = refl;
  continued = refl;
  not_continued = refl;
  comment_between = refl;
  resumed_in_16 = refl;
  resumed_in_17 = refl;
  doubled_apostrophe = refl;
  open_apostrophe = refl;
  no_operation = refl;
  data_before_exec = refl;
  no_program = refl;
  program_of_8 = refl;
  program_of_9 = refl;
  program_begins_with_a_digit = refl;
  generation = refl;
  generation_of_number_0 = refl;
  generation_of_version_1 = refl;
  farthest = refl;
  too_far = refl;
}
