use Rattle.std.proofs.Common.{refl}
use Rattle.value_core.proofs.examples.reads_spaces.Goals as goal

pub returns : goal.returns
returns c = record {
  tracks = refl;
  more = refl;
  cylinders = refl;
  blocks = refl;
  too_many = refl;
  empty_quantity = refl;
  empty_place = refl;
  directory = refl;
  empty_directory = refl;
  contiguous = refl;
  absolute = refl;
  long_block = refl;
  alone = refl;
}
