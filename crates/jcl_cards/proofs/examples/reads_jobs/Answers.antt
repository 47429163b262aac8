use Rattle.std.proofs.Common.{refl}
use Rattle.jcl_cards.proofs.examples.reads_jobs.Goals as goal

pub returns : goal.returns
returns c = record {
  whole = refl;
  plain = refl;
  without_a_name = refl;
  bad_name = refl;
  third_positional = refl;
  empty_positional = refl;
  class_p = refl;
  no_class = refl;
  priority_14 = refl;
  test_of_a_step = refl;
  even = refl;
  no_condition = refl;
  for_its_form = refl;
  left_out = refl;
  left_out_twice = refl;
  unknown = refl;
  lowest = refl;
  unread = refl;
  too_long = refl;
}
