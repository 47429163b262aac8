use Rattle.std.proofs.Common.{refl}
use Rattle.jcl_rows.proofs.values.refuses_spaces.Goals as goal

pub returns : goal.returns
returns c = record {
  no_quantity = refl;
  secondary_4001 = refl;
  cylinders_201 = refl;
  one_byte_too_many = refl;
  blocks_of_no_length = refl;
  empty_quantity = refl;
  letter = refl;
  very_large = refl;
  four_quantities = refl;
  no_primary = refl;
  release_in_the_third_place = refl;
  release_twice = refl;
  many_places = refl;
  other_unit = refl;
  directory_and_secondary = refl;
  mixed = refl;
  round = refl;
  all_extents = refl;
  absolute = refl;
}
