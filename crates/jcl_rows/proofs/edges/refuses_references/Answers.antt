use Rattle.std.proofs.Common.{refl}
use Rattle.jcl_symbols.specs.Substitutions.{substituted_from}
use Rattle.jcl_rows.proofs.edges.refuses_references.Goals as goal

pub returns : goal.returns
unfolding substituted_from
returns c = record {
  name_of_an_earlier_dd = refl;
  name_of_no_dd = refl;
  name_of_itself = refl;
  name_of_a_later_dd = refl;
  name_of_a_taken_dd = refl;
  volume_of_a_dummy = refl;
  volume_for_a_dummy = refl;
  blocks_of_output = refl;
  reference_before_unit = refl;
  test_of_itself = refl;
  test_of_an_earlier_step = refl;
  test_of_a_later_step = refl;
  later_dds_5 = refl;
  later_dds_7 = refl;
  uncatalogued_temporary = refl;
  reference_before_uncatalogued = refl;
  tests_first = refl;
}
