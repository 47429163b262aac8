use Rattle.std.proofs.Common.{refl}
use Rattle.text_rows.proofs.names.reads_bases.Goals as goal

pub returns : goal.returns
returns c = record {
  longest = refl;
  generation = refl;
  empty = refl;
  too_long = refl;
  apostrophe = refl;
  number_0 = refl;
}
