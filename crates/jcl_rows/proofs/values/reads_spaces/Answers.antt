use Rattle.std.proofs.Common.{refl}
use Rattle.jcl_rows.proofs.values.reads_spaces.Goals as goal

pub returns : goal.returns
returns c = record {
  tracks_4000 = refl;
  secondary_and_release = refl;
  cylinders_200 = refl;
  secondary_0 = refl;
  blocks_of_a_track = refl;
  two_blocks_of_a_track = refl;
  bytes_of_a_track = refl;
  one_byte_more = refl;
  bytes_of_4000_tracks = refl;
  leading_zeros = refl;
}
