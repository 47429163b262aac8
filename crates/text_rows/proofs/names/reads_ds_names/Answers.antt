use Rattle.std.proofs.Common.{refl}
use Rattle.text_rows.proofs.names.reads_ds_names.Goals as goal

pub returns : goal.returns
returns c = record {
  one = refl;
  two_components = refl;
  hyphen = refl;
  ends_with_a_hyphen = refl;
  longest = refl;
  generation = refl;
  last_generation = refl;
  no_base = refl;
  no_base_and_number_0 = refl;
  generation_of_a_generation = refl;
  number_0_within = refl;
  three_digits = refl;
  no_digits = refl;
  empty = refl;
  empty_component = refl;
  ends_with_a_period = refl;
  begins_with_a_period = refl;
  empty_before_bad = refl;
  empty_before_long = refl;
  long_component = refl;
  long_second_component = refl;
  long_before_bad = refl;
  too_long = refl;
  begins_with_a_digit = refl;
  component_begins_with_a_digit = refl;
  begins_with_a_hyphen = refl;
  component_begins_with_a_hyphen = refl;
  apostrophe = refl;
  character_before_generation = refl;
  number_0 = refl;
  version_1 = refl;
  number_0_and_version_1 = refl;
}
