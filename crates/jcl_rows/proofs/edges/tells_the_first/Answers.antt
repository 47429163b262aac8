use Rattle.std.proofs.Common.{refl}
use Rattle.jcl_symbols.specs.Substitutions.{substituted_from}
use Rattle.jcl_rows.proofs.edges.tells_the_first.Goals as goal

pub returns : goal.returns
unfolding substituted_from
returns c = record {
  byte_before_continuation = refl;
  data_before_two_jobs = refl;
  two_jobs_before_a_name = refl;
  name_before_a_keyword = refl;
  nothing_to_continue_before_a_procedure = refl;
  first_call_is_unknown = refl;
  first_call_has_a_job = refl;
  out_of_order_before_no_step = refl;
  no_step_before_out_of_order = refl;
  procedure_of_no_step = refl;
  procedure_of_a_pend = refl;
  dd_before_a_step_of_a_procedure = refl;
  cards_of_a_procedure = refl;
}
