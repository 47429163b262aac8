use Rattle.std.proofs.Common.{refl}
use Rattle.jcl_symbols.specs.Substitutions.{substituted_from}
use Rattle.jcl_refs.proofs.examples.plans.Goals as goal

pub returns : goal.returns
unfolding substituted_from
returns c = record {
  unnamed = refl;
  null_file = refl;
  name_of_a_dd = refl;
  stem = refl;
  name_of_a_dummy = refl;
  volume_of_a_dd = refl;
  volume_of_a_dummy = refl;
  volume_for_a_dummy = refl;
  blocks_of_a_dummy = refl;
  of_output = refl;
  of_none = refl;
  of_itself = refl;
  of_a_later_one = refl;
  of_a_later_step = refl;
  of_an_earlier_step = refl;
  of_a_step_of_a_call = refl;
  later_dd = refl;
  no_later_dd = refl;
  later_dd_of_a_later_one = refl;
  taken_by_another = refl;
  five = refl;
  six = refl;
  uncataloged = refl;
  uncataloged_after_abend = refl;
  unknown_unit = refl;
  on_a_unit = refl;
  forward_before_unit = refl;
  test_of_itself = refl;
  test_of_an_earlier_step = refl;
  tests_before_dds = refl;
  tests_first = refl;
}
