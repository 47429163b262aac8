use Rattle.std.proofs.Common.{refl}
use Rattle.value_core.proofs.examples.reads_volumes.Goals as goal

pub returns : goal.returns
returns c = record {
  serial = refl;
  in_parentheses = refl;
  of_a_name = refl;
  of_a_dd = refl;
  private = refl;
  two_serials = refl;
  bad_serial = refl;
  relative = refl;
  twice = refl;
  both = refl;
}
