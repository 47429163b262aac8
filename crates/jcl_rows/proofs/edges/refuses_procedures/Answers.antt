use Rattle.std.proofs.Common.{refl}
use Rattle.jcl_symbols.specs.Substitutions.{substituted_from}
use Rattle.jcl_rows.proofs.edges.refuses_procedures.Goals as goal

pub returns : goal.returns
unfolding substituted_from
returns c = record {
  no_step_and_no_pend = refl;
  missing_pend = refl;
  procedure_within = refl;
  overrides_in_order = refl;
  overrides_out_of_order = refl;
  override_of_no_step = refl;
  override_of_a_program = refl;
  condition_of_a_step = refl;
  parameter_of_no_step = refl;
  procedures_15 = refl;
  procedures_16 = refl;
  symbol_with_a_value = refl;
  symbol_without_a_value = refl;
  symbol_outside_a_procedure = refl;
  value_of_no_class = refl;
}
