use Rattle.std.proofs.Common.{refl}
use Rattle.jcl_rows.proofs.values.refuses_set_names.Goals as goal

pub returns : goal.returns
returns c = record {
  empty = refl;
  too_long = refl;
  base_too_long = refl;
  long_temporary = refl;
  temporary_begins_with_a_digit = refl;
  number_0 = refl;
  too_far = refl;
  too_far_without_a_sign = refl;
  very_far = refl;
  without_a_sign = refl;
  no_amount = refl;
  letter_behind_the_amount = refl;
  of_nothing = refl;
  long_member = refl;
  relative_temporary = refl;
  temporary_of_nothing = refl;
  of_a_member = refl;
  temporary_of_a_member = refl;
  empty_component_before_a_member = refl;
}
