use Rattle.std.proofs.Common.{refl}
use Rattle.text_rows.proofs.names.numbers_faults.Goals as goal

pub returns : goal.returns
returns c = record {
  empty = refl;
  too_long = refl;
  bad_character = refl;
  bad_generation = refl;
}
