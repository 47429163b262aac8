use Rattle.std.proofs.Common.{refl}
use Rattle.jcl_cards.proofs.examples.reads_execs.Goals as goal

pub returns : goal.returns
returns c = record {
  program = refl;
  call = refl;
  by_keyword = refl;
  of_nothing = refl;
  of_both = refl;
  twice_called = refl;
  unnamed_program = refl;
  by_reference = refl;
  step_of_a_program = refl;
  symbol_of_a_program = refl;
  symbol_of_a_step = refl;
  long_symbol = refl;
  bad_step = refl;
  no_condition = refl;
  parm_of_100 = refl;
  parm_of_101 = refl;
  left_out = refl;
  twice = refl;
  of_two_steps = refl;
}
