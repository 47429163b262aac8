use Rattle.std.proofs.Common.{refl}
use Rattle.jcl_symbols.specs.Substitutions.{substituted_from}
use Rattle.jcl_rows.proofs.edges.refuses_forms.Goals as goal

pub returns : goal.returns
unfolding substituted_from
returns c = record {
  tests_8 = refl;
  tests_9 = refl;
  tests_8_and_even = refl;
  cards_in_a_procedure = refl;
  nothing_to_continue = refl;
  continued_dd = refl;
  known_unit = refl;
  unknown_unit = refl;
  two_serials = refl;
  member = refl;
  left_out_keyword = refl;
  left_out_form = refl;
  no_such_procedure = refl;
  procedure_calls_one = refl;
}
