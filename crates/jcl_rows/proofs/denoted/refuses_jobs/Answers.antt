use Rattle.std.proofs.Common.{refl}
use Rattle.std.specs.Fmt.{digits}
use Rattle.jcl_symbols.specs.Substitutions.{substituted_from}
use Rattle.jcl_rows.proofs.denoted.refuses_jobs.Goals as goal

pub returns : goal.returns
unfolding digits substituted_from
returns c = record {
  no_such_procedure = refl;
  procedure_calls_one = refl;
  cards_of_a_procedure = refl;
  no_value = refl;
  out_of_order = refl;
  condition_of_no_step = refl;
  procedure_before_test = refl;
  test_before_reference = refl;
  reference_to_nothing = refl;
  reference_before_unit = refl;
  uncatalogued_temporary = refl;
  unknown_unit = refl;
}
