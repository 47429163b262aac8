use Rattle.std.proofs.Common.{refl}
use Rattle.list_values.proofs.examples.reads_control_blocks.Goals as goal

pub returns : goal.returns
returns c = record {
  like_another = refl;
  alone = refl;
  two = refl;
  of_form = refl;
  bad_name = refl;
}
