use Rattle.std.proofs.Common.{refl}
use Rattle.jcl_symbols.specs.Substitutions.{substituted_from}
use Rattle.jcl_procs.proofs.examples.expands.Goals as goal

pub returns : goal.returns
unfolding substituted_from
returns c = record {
  symbols = refl;
  symbol_without_value = refl;
  call_wins = refl;
  overridden = refl;
  class_overridden = refl;
  class_nullified = refl;
  set_name_removes_class = refl;
  unqualified_goes_on = refl;
  added = refl;
  continued = refl;
  status_of_a_class = refl;
  goes_back = refl;
  no_such_step = refl;
  condition_of_no_step = refl;
  no_such_procedure = refl;
  in_the_stream_first = refl;
  behind_its_call = refl;
  calls_one = refl;
  has_cards = refl;
  has_no_step = refl;
  has_a_pend = refl;
  continues_nothing = refl;
  dd_before_a_step = refl;
  faults_of_its_cards = refl;
  not_called = refl;
  without_pend = refl;
  procedure_within = refl;
  no_step_before_no_pend = refl;
  of_15 = refl;
  of_16 = refl;
  names_first = refl;
}
