use Rattle.std.proofs.Common.{refl}
use Rattle.jcl_rows.proofs.values.refuses_volumes.Goals as goal

pub returns : goal.returns
returns c = record {
  empty_serial_behind = refl;
  no_serial = refl;
  period = refl;
  of_a_temporary = refl;
  of_an_empty_component = refl;
  of_a_long_step = refl;
  of_four_parts = refl;
  other_word = refl;
  other_keyword = refl;
  serial_twice = refl;
  serial_and_reference = refl;
  serial_twice_and_bad_name = refl;
}
