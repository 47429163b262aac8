use Rattle.std.proofs.Common.{refl}
use Rattle.value_core.proofs.examples.reads_names.Goals as goal

pub returns : goal.returns
returns c = record {
  plain = refl;
  null = refl;
  of_a_dd = refl;
  temporary = refl;
  one_ampersand = refl;
  next = refl;
  before = refl;
  newest = refl;
  newest_before = refl;
  begins_with_a_hyphen = refl;
  too_far = refl;
  without_a_sign = refl;
  of_a_member = refl;
  of_nothing = refl;
  not_at_the_end = refl;
  version = refl;
  in_apostrophes = refl;
  empty_component = refl;
  four_parts = refl;
  base_of_35 = refl;
  base_of_36 = refl;
}
