use Rattle.std.proofs.Common.{refl}
use Rattle.jcl_rows.proofs.values.refuses_references.Goals as goal

pub returns : goal.returns
returns c = record {
  no_name = refl;
  no_last_name = refl;
  long_step = refl;
  bad_dd = refl;
  bad_step_and_long_dd = refl;
  four_parts_of_names = refl;
  five_parts_with_a_bad_name = refl;
  six_parts_with_empty_names = refl;
  no_step = refl;
  no_procedure_step = refl;
  long_procedure_step = refl;
  bad_step = refl;
  three_steps = refl;
  three_steps_with_a_bad_name = refl;
}
