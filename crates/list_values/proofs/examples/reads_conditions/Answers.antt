use Rattle.std.proofs.Common.{refl}
use Rattle.list_values.proofs.examples.reads_conditions.Goals as goal

pub returns : goal.returns
returns c = record {
  one = refl;
  even = refl;
  only = refl;
  of_a_job = refl;
  even_of_a_job = refl;
  step_of_a_job = refl;
  code = refl;
  unknown = refl;
  both = refl;
  empty = refl;
  nine = refl;
  bad_step = refl;
}
