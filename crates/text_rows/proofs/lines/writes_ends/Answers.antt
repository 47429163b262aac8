use Rattle.std.proofs.Common.{refl}
use Rattle.std.specs.Fmt.{digits}
use Rattle.text_rows.proofs.lines.writes_ends.Goals as goal

pub returns : goal.returns
unfolding digits
returns c = record {
  code_0 = refl;
  user_0 = refl;
  code_16 = refl;
  user_16 = refl;
  code_4095 = refl;
  user_4095 = refl;
  s222 = refl;
  s806 = refl;
  sb37 = refl;
  sd37 = refl;
  sff0 = refl;
  sff1 = refl;
}
